-- What it means that an edit is in conflict (MediaWiki's API:Edit; that a base of 0 names a missing page, and the order of
-- the refusals, are own).
use Rattle.std.specs.Prelude.{◌≡◌, ◌≢◌, ℕ, ◌≤◌, true, false, Some, None, option_map}
use Rattle.wk_text_rules.specs.Titles.{PageTitle}
use Rattle.wk_page_rules.specs.Kept.{kept}
use Rattle.wk_page_rules.specs.History.{History, current_revision, page_exists}
use Rattle.wk_page_rules.specs.Verdict.{EditAsked, real_title, body_bytes, max_text}

-- The edit is of this title, and no refusal applies that comes before that of a conflict.
pub record PassesUntilConflict (h : History) (edit : EditAsked) (title : PageTitle) : Type 0 where
  -- the title is valid
  pub valid : real_title edit.title ≡ Some title
  -- the content isn't too big
  pub small : body_bytes (option_map kept edit.body) ≤ max_text
  -- where only a missing page may be saved, it is missing
  pub missing : edit.create_only ≡ true → page_exists h title ≡ false
  -- where only a page that exists may be saved, it exists
  pub there : edit.no_create ≡ true → page_exists h title ≡ true
  -- and so where it is to be deleted
  pub deleted : edit.body ≡ None → page_exists h title ≡ true

-- The edit names a base, and the page's current revision, 0 where it is missing, is this other one.
pub record IsInConflict (h : History) (edit : EditAsked) (current : ℕ) : Type 0 where
  pub title : PageTitle
  pub base : ℕ
  pub passes : PassesUntilConflict h edit title
  pub named : edit.base ≡ Some base
  pub now : current_revision h title ≡ current
  pub other : base ≢ current
