use Rattle.wk_http.proofs.MessageLemmas.{IsMessage-append, IsBad-append}
use Rattle.wk_http.proofs.laws.what_is_decided_stays_decided.Goals as goal

pub returns-clause-message : goal.returns-clause-message
returns-clause-message c = IsMessage-append

pub returns-clause-bad : goal.returns-clause-bad
returns-clause-bad c = IsBad-append
