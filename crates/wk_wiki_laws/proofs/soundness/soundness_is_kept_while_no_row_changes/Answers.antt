use Rattle.wk_wiki_laws.proofs.Sound.{IsSound-claimed, IsSound-given_back, IsSound-reopened}
use Rattle.wk_wiki_laws.proofs.soundness.soundness_is_kept_while_no_row_changes.Goals as goal

pub returns-clause-claimed : goal.returns-clause-claimed
returns-clause-claimed c = IsSound-claimed

pub returns-clause-given_back : goal.returns-clause-given_back
returns-clause-given_back c = IsSound-given_back

pub returns-clause-reopened : goal.returns-clause-reopened
returns-clause-reopened c = IsSound-reopened
