use Rattle.wk_wiki_laws.proofs.Sound.{IsCurrent-at_rest}
use Rattle.wk_wiki_laws.proofs.soundness.pages_are_current_when_no_job_is_left.Goals as goal

pub returns : goal.returns
returns c = IsCurrent-at_rest
