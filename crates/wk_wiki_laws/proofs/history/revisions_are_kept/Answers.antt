use Rattle.std.specs.Prelude.{flat_map}
use Rattle.wk_wiki_rules.specs.Tables.{state_of}
use Rattle.wk_wiki_laws.specs.Saves.{saves}
use Rattle.wk_wiki_laws.proofs.Saves.{history-replayed, history-lived, history-lived_from_store, continues-after_saves}
use Rattle.wk_wiki_laws.proofs.history.revisions_are_kept.Goals as goal

pub returns-clause-replayed : goal.returns-clause-replayed
returns-clause-replayed c = λ most start last journal events e.
    continues-after_saves start.history (saves events) last.history (history-replayed most start last journal events e)

pub returns-clause-lived : goal.returns-clause-lived
returns-clause-lived c = λ start last journals lives.
    continues-after_saves start.history (flat_map saves journals) last.history (history-lived start last journals lives)

pub returns-clause-lived_from_store : goal.returns-clause-lived_from_store
returns-clause-lived_from_store c = λ tables last journals lives.
    continues-after_saves (state_of tables).history (flat_map saves journals) last.history (history-lived_from_store tables last journals lives)
