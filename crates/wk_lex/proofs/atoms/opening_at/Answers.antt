use Rattle.wk_lex.proofs.FirstLemmas.{open-by_mark, byte-by_opening_mark}
use Rattle.wk_lex.proofs.atoms.opening_at.Goals as goal

pub returns-in-Some : goal.returns-in-Some
returns-in-Some c = λ mode line. open-by_mark c.args.text.now c.args.at c.requires.within mode line c.in-Some.end c.requires.opening c.in-Some.ensures

pub returns-in-None : goal.returns-in-None
returns-in-None c = λ mode line. byte-by_opening_mark c.args.text.now c.args.at c.requires.within mode line c.requires.opening c.in-None.ensures
