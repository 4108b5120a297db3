use Rattle.wk_answer_laws.proofs.Points.{placed}
use Rattle.wk_answer_laws.proofs.points_count_the_event.Goals as goal

pub returns : goal.returns
returns c = placed
