use Rattle.wk_lex.proofs.NearestLemmas.{nearest-some, nearest-none}
use Rattle.wk_lex.proofs.places.nearest.Goals as goal

pub returns-in-Some : goal.returns-in-Some
returns-in-Some c =
    nearest-some c.args.text.now c.args.word.now c.args.from c.requires.some c.requires.within c.in-Some.place c.in-Some.ensures

pub returns-in-None : goal.returns-in-None
returns-in-None c = nearest-none c.args.text.now c.args.word.now c.args.from c.requires.some c.requires.within c.in-None.ensures
