use Rattle.wk_answer_laws.proofs.Substs.{unflagged}
use Rattle.wk_answer_laws.proofs.nothing_else_heeds_subst.Goals as goal

pub returns : goal.returns
returns c = unflagged
