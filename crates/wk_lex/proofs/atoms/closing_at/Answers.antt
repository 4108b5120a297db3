use Rattle.wk_lex.proofs.FirstLemmas.{close-by_mark, byte-by_closing_mark}
use Rattle.wk_lex.proofs.atoms.closing_at.Goals as goal

pub returns-in-Some : goal.returns-in-Some
returns-in-Some c = λ mode line. close-by_mark c.args.text.now c.args.at c.requires.within mode line c.in-Some.end c.requires.closing c.in-Some.ensures

pub returns-in-None : goal.returns-in-None
returns-in-None c = λ mode line. byte-by_closing_mark c.args.text.now c.args.at c.requires.within mode line c.requires.closing c.in-None.ensures
