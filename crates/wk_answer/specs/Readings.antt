-- Reads that answer requests (own).
use Rattle.std.specs.Prelude.{◌≡◌, ℕ, Bool, true, false, pos, List, Option, Some, None, Result, Ok, Err, option_map, slice_get, unwrap_or, if◌then◌else◌}
use Rattle.wk_text_rules.specs.Titles.{PageTitle, normal}
use Rattle.wk_page_rules.specs.Verdict.{real_title}
use Rattle.wk_page_rules.specs.History.{page_exists}
use Rattle.wk_view_rules.specs.Plans.{done}
use Rattle.wk_view_rules.specs.Worlds.{Read, mark}
use Rattle.wk_wiki_rules.specs.States.{State, world_of}
use Rattle.wk_wiki_laws.specs.WellFormed.{IsWellFormed}
use Rattle.wk_wiki_rules.specs.Passes.{PageReading, drafted_in, shown_number}
use Rattle.wk_request_rules.specs.Requests.{Ask, parse, expand_text}
use Rattle.wk_answer_rules.specs.ApiErrors.{missingtitle}
use Rattle.wk_answer_rules.specs.Pages.{ReadAnswer, shows, fails, page_shown, parse_entries}
use Rattle.wk_core.specs.declared.outcomes.PageRead.{PageRead}
use Rattle.wk_core.specs.declared.outcomes.ReadRefusal.{ReadRefusal}
use Rattle.wk_core.specs.declared.outcomes.ReadRefusal.TheVariants.{Future, Memory}

-- what a read found, as the rules see it
abbrev pub reading_of : PageRead → PageReading
reading_of read = record {
  page = read.draft.page;
  given = read.draft.given;
  expanded = read.draft.expanded;
  reads = read.draft.reads;
  number = read.id;
  point = read.point;
}

-- it asks what a page or a text expands to
abbrev pub asks_to_expand : Ask → Bool
asks_to_expand (parse page) = true
asks_to_expand (expand_text text page) = true
asks_to_expand _ = false

-- the read is refused since its least point isn't reached, and not for want of memory
abbrev pub IsEarly : ReadRefusal → Type 0
IsEarly (Future latest) = Unit {0}
IsEarly Memory = ⊥

-- A reply can be made of the read: it isn't refused for want of memory, and for a page it is one of the page's own text.
abbrev pub IsFitRead : Ask → Result PageRead ReadRefusal → Type 0
IsFitRead ask (Err refusal) = IsEarly refusal
IsFitRead (parse page) (Ok read) = read.draft.given ≡ None
IsFitRead _ (Ok read) = Unit {0}

-- what is read for what is asked: the page that it names, or its text in the place of the page that it names
abbrev pub IsReadOf : Ask → PageTitle → Option (List ℕ) → Type 0
IsReadOf (parse page) title given = (real_title page ≡ Some title) × (given ≡ None)
IsReadOf (expand_text text page) title given = (normal page (pos 0) ≡ Some title) × (given ≡ Some text)
IsReadOf _ title given = ⊥

-- The read is of what is asked, and it is right in this state.
pub record IsRightRead (state : State) (ask : Ask) (reading : PageReading) : Type 0 where
  pub formed : IsWellFormed state
  pub asked : IsReadOf ask reading.page reading.given
  pub drafted : drafted_in (world_of state) reading.page reading.given ≡ done reading.expanded reading.reads
  pub numbered : reading.number ≡ shown_number state.history reading.page

-- ---- of a page

-- the mark of what was read first, 0 where nothing was read
abbrev pub mark_first : List Read → ℕ
mark_first reads = unwrap_or (option_map (λ (r : Read). mark r.answer) (slice_get reads 0)) 0

-- what is told of a page: an error where it doesn't exist
abbrev pub page_answer : State → PageTitle → ReadAnswer
page_answer state title = if page_exists state.history title then shows (parse_entries (page_shown state title)) else fails missingtitle
