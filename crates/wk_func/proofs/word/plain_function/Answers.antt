use Rattle.wk_func.proofs.WordLaws.{function_called-plain}
use Rattle.wk_func.proofs.word.plain_function.Goals as goal

pub returns : goal.returns
returns c = rw (c.function_named.ensures, c.as_bytes.ensures.value) (function_called-plain c.args.text.now)
