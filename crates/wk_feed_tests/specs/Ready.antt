-- Passes that may save.
use Rattle.std.specs.Prelude.{◌≡◌, None}
use Rattle.wk_wiki_rules.specs.Events.{Event}
use Rattle.wk_wiki_rules.specs.Starts.{Start}
use Rattle.wk_turn.specs.Told.{Begun, Story}
use Rattle.wk_shared.specs.Calls.{IsFree}

-- the pass is of this shared wiki, which isn't sealed, and hasn't taken it
abbrev pub IsReady : Begun Start → Story Start Event → Type 0
IsReady shared pass = IsFree shared pass × (shared.start.sealed ≡ None)
