use Rattle.wk_shared.proofs.Made.{fit-still}
use Rattle.wk_shared.proofs.laws.held_drafts_stay_fit.Goals as goal

pub returns : goal.returns
returns c = fit-still
