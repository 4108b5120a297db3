use Rattle.std.proofs.Common.{Some, refl}
use Rattle.wk_answer_laws.proofs.Floats.{answer-plain}
use Rattle.wk_answer_laws.proofs.Lines.{line-fine}
use Rattle.wk_answer_laws.proofs.replies_have_no_float.Goals as goal

pub returns-clause-request : goal.returns-clause-request
returns-clause-request c = answer-plain

pub returns-clause-line : goal.returns-clause-line
returns-clause-line c = λ most s t moment line reply run. (line-fine most s moment line (Some reply) t reply run refl).0
