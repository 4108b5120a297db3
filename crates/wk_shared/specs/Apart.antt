-- What is asked of a shared wiki without the turn, and drafts of what it answers (own).
use Rattle.std.specs.Prelude.{◌≡◌, ℕ, List, length, Option}
use Rattle.wk_text_rules.specs.Titles.{PageTitle}
use Rattle.wk_view_rules.specs.Worlds.{Read}
use Rattle.wk_wiki_rules.specs.Events.{Event}
use Rattle.wk_wiki_rules.specs.Starts.{Start}
use Rattle.wk_expand.specs.Drafts.{DraftShown}
use Rattle.wk_turn.specs.Told.{Begun, Story}
use Rattle.wk_read_laws.specs.Points.{AreReadSince}
use Rattle.wk_shared.specs.Looks.{HasRead, KeepsTickets}

-- what asking leaves of a pass: it only looked, and each ticket that it held it holds still
pub record HasAsked (shared : Begun Start) (old new : Story Start Event) : Type 0 where
  pub read : HasRead shared old new
  pub tickets : KeepsTickets shared.start old new

-- each of the answers is that of the world at a point from the one on that the pass had seen
abbrev pub AreAnsweredSince : Begun Start → Story Start Event → Story Start Event → List Read → Type 0
AreAnsweredSince shared old new answers = AreReadSince shared.start new.seen (length old.seen) answers

-- The draft is of this page, or of this text, and each of its reads was answered at a point from the one on that the pass had
-- seen.
pub record IsDraftSince (start : Start) (old new : Story Start Event) (page : PageTitle) (given : Option (List ℕ)) (d : DraftShown) : Type 0 where
  pub page_is : d.page ≡ page
  pub given_is : d.given ≡ given
  pub since : AreReadSince start new.seen (length old.seen) d.reads
