use Rattle.wk_func.proofs.WordLaws.{variable_called-plain}
use Rattle.wk_func.proofs.word.plain_variable.Goals as goal

pub returns : goal.returns
returns c = rw c.variable_named.ensures (variable_called-plain c.args.text.now)
