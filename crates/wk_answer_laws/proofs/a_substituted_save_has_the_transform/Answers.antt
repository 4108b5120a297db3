use Rattle.wk_answer_laws.proofs.Substs.{substituted-save}
use Rattle.wk_answer_laws.proofs.a_substituted_save_has_the_transform.Goals as goal

pub returns : goal.returns
returns c = substituted-save
