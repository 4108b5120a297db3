use Rattle.wk_shared.proofs.Made.{honest-still}
use Rattle.wk_shared.proofs.laws.reads_stay_honest.Goals as goal

pub returns : goal.returns
returns c = honest-still
