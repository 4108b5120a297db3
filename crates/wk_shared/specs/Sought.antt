-- What a look at the wiki finds for a read of a page (own).
use Rattle.std.specs.Prelude.{◌≡◌, ℕ, List, [], length, None}
use Rattle.wk_text_rules.specs.Titles.{PageTitle}
use Rattle.wk_wiki_rules.specs.States.{State, world_of}
use Rattle.wk_wiki_rules.specs.Events.{Event}
use Rattle.wk_wiki_rules.specs.Passes.{IsReadAt}
use Rattle.wk_wiki_rules.specs.Staleness.{first_stale}
use Rattle.wk_wiki_rules.specs.Starts.{Start}
use Rattle.wk_cache.specs.Entries.{reading_kept}
use Rattle.wk_cache.specs.declared.kept.Kept.{Kept}
use Rattle.wk_core.specs.declared.outcomes.PageRead.{PageRead}
use Rattle.wk_expand.specs.Drafts.{DraftShown}
use Rattle.wk_turn.specs.Told.{Begun, Story}
use Rattle.wk_shared.specs.Looks.{IsPresentRead}
use Rattle.wk_shared.specs.declared.keeping.Sought.{Sought}
use Rattle.wk_shared.specs.declared.keeping.Sought.TheVariants as sought

-- what is kept of a draft that was just looked at
abbrev pub kept_of : DraftShown → ℕ → ℕ → Kept
kept_of draft point id = record { draft = draft; point = point; uses = 0; id = id }

-- an entry as an answer at its point
abbrev pub kept_read : Kept → PageRead
kept_read kept = record { draft = kept.draft; point = kept.point; id = kept.id }

-- What is kept of a page's own text is right at the present point, and wasn't served since it was looked at.
pub record IsCurrentKept (start : Start) (journal : List Event) (page : PageTitle) (kept : Kept) : Type 0 where
  pub page_is : kept.draft.page ≡ page
  pub own_text : kept.draft.given ≡ None
  pub point_is : kept.point ≡ length journal
  pub unused : kept.uses ≡ 0
  pub right : IsReadAt (record { start = start; journal = journal; own = [] }) (reading_kept kept)

-- what the reader keeps is current, or what the wiki keeps of the page is
abbrev pub IsSought : Start → List Event → State → PageTitle → DraftShown → Sought → Type 0
IsSought start journal state page own sought.Own = first_stale (world_of state) own.reads ≡ None
IsSought start journal state page own (sought.Shared kept) = IsCurrentKept start journal page kept
IsSought start journal state page own sought.Nothing = Unit {0}

-- what is told of it behind the turn
abbrev pub IsLookedFor : Begun Start → Story Start Event → State → PageTitle → DraftShown → Sought → Type 0
IsLookedFor shared pass state page own sought.Own = first_stale (world_of state) own.reads ≡ None
IsLookedFor shared pass state page own (sought.Shared kept) = IsPresentRead shared pass page None (kept_read kept) × (kept.uses ≡ 0)
IsLookedFor shared pass state page own sought.Nothing = Unit {0}
