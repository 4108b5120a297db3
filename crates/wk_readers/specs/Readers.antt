-- What a reader is seen as, and what it keeps (own).
use Rattle.std.specs.Prelude.{◌≡◌, ℕ, Bool, true, false, List, Contains, Some, length}
use Rattle.wk_wiki_rules.specs.States.{State}
use Rattle.wk_wiki_rules.specs.Events.{Event}
use Rattle.wk_wiki_rules.specs.Passes.{IsKeptRead}
use Rattle.wk_wiki_rules.specs.Starts.{Start}
use Rattle.wk_turn.specs.Told.{Story}
use Rattle.wk_shared.specs.Calls.{seen_by, state_by}
use Rattle.wk_shared.specs.Looks.{is_idle}
use Rattle.wk_cache.specs.Entries.{entry_kept}
use Rattle.wk_cache.specs.declared.kept.Kept.{Kept}

pub record ReaderSeen : Type 0 where
  pub pass : Story Start Event
  -- how many pages it keeps at most
  pub most : ℕ
  -- what it keeps of pages, the one that was read last before all others
  pub entries : List Kept

-- each entry is right at its point, which the pass has seen
abbrev pub AreRight : Story Start Event → List Kept → Type 0
AreRight pass entries = (start : Start) (kept : Kept) → pass.start ≡ Some start → Contains entries kept → IsKeptRead (seen_by start pass) (entry_kept kept)

-- At the point that the pass has seen last no job is to be done.
pub record IsIdleAt (start : Start) (pass : Story Start Event) : Type 0 where
  pub state : State
  pub stands : state_by start pass (length pass.seen) ≡ Some state
  pub idle : is_idle state ≡ true

-- where it is told that no job is to be done there, that is so
abbrev pub KnowsIdle : Story Start Event → Bool → Type 0
KnowsIdle pass true = (start : Start) → pass.start ≡ Some start → IsIdleAt start pass
KnowsIdle pass false = Unit {0}

-- what holds of a reader's parts
pub record IsReader (pass : Story Start Event) (entries : List Kept) (idle : Bool) : Type 0 where
  pub right : AreRight pass entries
  pub knows : KnowsIdle pass idle
