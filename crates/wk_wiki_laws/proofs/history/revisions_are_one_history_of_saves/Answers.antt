use Rattle.wk_wiki_laws.proofs.Saves.{history-replayed, history-lived, history-lived_from_store}
use Rattle.wk_wiki_laws.proofs.history.revisions_are_one_history_of_saves.Goals as goal

pub returns-clause-replayed : goal.returns-clause-replayed
returns-clause-replayed c = history-replayed

pub returns-clause-lived : goal.returns-clause-lived
returns-clause-lived c = history-lived

pub returns-clause-lived_from_store : goal.returns-clause-lived_from_store
returns-clause-lived_from_store c = history-lived_from_store
