use Rattle.std.proofs.Common.{refl}
use Rattle.wk_wiki_laws.proofs.Histories.{history-saved, history-claimed, history-refreshed, history-given_back, history-fanned}
use Rattle.wk_wiki_laws.proofs.history.only_saves_change_the_history.Goals as goal

pub returns-clause-saved : goal.returns-clause-saved
returns-clause-saved c = history-saved

pub returns-clause-claimed : goal.returns-clause-claimed
returns-clause-claimed c = history-claimed

pub returns-clause-refreshed : goal.returns-clause-refreshed
returns-clause-refreshed c = history-refreshed

pub returns-clause-given_back : goal.returns-clause-given_back
returns-clause-given_back c = history-given_back

pub returns-clause-fanned : goal.returns-clause-fanned
returns-clause-fanned c = history-fanned

pub returns-clause-reopened : goal.returns-clause-reopened
returns-clause-reopened c = λ state. refl
