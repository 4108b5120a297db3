-- What is told of a save that isn't refused (MediaWiki's API:Edit tells a page's new and old revision, whether the page is
-- new, and that nothing changed).
use Rattle.std.specs.Prelude.{ℕ, false, true, List, Option, Some, None, if◌then◌else◌}
use Rattle.wk_text_rules.specs.Titles.{PageTitle}
use Rattle.wk_page_rules.specs.History.{History, current_revision, next_revision, page_exists, page_to_save}
use Rattle.wk_page_rules.specs.Verdict.{EditAsked, Verdict, refuse, no_change, accept}

-- the numbers of a save
pub record SaveNumbers : Type 0 where
  pub page : ℕ
  -- the revision that was current before, 0 where the page was missing
  pub old : ℕ
  -- the revision that was made
  pub new : ℕ

pub data SaveOutcome : Type 0 where
  -- the page was missing
  created : PageTitle → SaveNumbers → SaveOutcome
  -- the page existed
  changed : PageTitle → SaveNumbers → SaveOutcome
  -- the page has this text already: its title and its number
  unchanged : PageTitle → ℕ → SaveOutcome

abbrev pub save_numbers : History → PageTitle → SaveNumbers
save_numbers h title = record { page = page_to_save h title; old = current_revision h title; new = next_revision h }

-- what is told of a verdict, by the history before the save; nothing of a refusal
abbrev pub save_outcome : History → Verdict → Option SaveOutcome
save_outcome h (refuse refusal) = None
save_outcome h (no_change title) = Some (unchanged title (page_to_save h title))
save_outcome h (accept title text) =
    Some (if page_exists h title then changed title (save_numbers h title) else created title (save_numbers h title))

-- a deletion is a save of no text, of a page that exists
abbrev pub deletion : List ℕ → Option ℕ → EditAsked
deletion title base = record { title = title; body = None; base = base; create_only = false; no_create = true }
