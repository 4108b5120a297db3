use Rattle.wk_wiki_laws.proofs.KeptStates.{IsGood-kept}
use Rattle.wk_wiki_laws.proofs.ReadBack.{state-back, opened-is}
use Rattle.wk_wiki_laws.proofs.kept.kept_states_have_good_tables.Goals as goal

pub returns-clause-good : goal.returns-clause-good
returns-clause-good c = IsGood-kept

pub returns-clause-stood_for : goal.returns-clause-stood_for
returns-clause-stood_for c = state-back

pub returns-clause-opened : goal.returns-clause-opened
returns-clause-opened c = opened-is
