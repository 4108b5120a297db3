use Rattle.wk_func.proofs.WordLaws.{function_called-start}
use Rattle.wk_func.proofs.word.function_called.Goals as goal

pub returns : goal.returns
returns c = rw (c.function_named.ensures, c.as_bytes.ensures.value, c.plain_start.ensures) (function_called-start c.args.title.now)
