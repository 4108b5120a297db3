use Rattle.wk_answer_laws.proofs.Points.{request-none}
use Rattle.wk_answer_laws.proofs.reads_make_no_event.Goals as goal

pub returns : goal.returns
returns c = request-none
