use Rattle.std.proofs.Common.{Some, refl}
use Rattle.wk_answer_laws.proofs.Lines.{line-fine}
use Rattle.wk_answer_laws.proofs.replies_show_the_point_behind_the_line.Goals as goal

pub returns : goal.returns
returns c = λ most s t moment line reply run. (line-fine most s moment line (Some reply) t reply run refl).1
