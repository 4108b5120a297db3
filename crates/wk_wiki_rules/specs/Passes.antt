-- What one caller of a shared wiki has seen, what is read at a point of it, and what a cache keeps of reads (own). A point
-- is the length of a journal.
use Rattle.std.specs.Prelude.{◌≡◌, ℕ, ◌≤◌, List, length, find, Option, Some, None, is_some, unwrap_or, option_and_then, if◌then◌else◌}
use Rattle.wk_text_rules.specs.Titles.{PageTitle}
use Rattle.wk_page_rules.specs.History.{History, page_exists, page_number, text_of_revision}
use Rattle.wk_view_rules.specs.Plans.{Outcome, done}
use Rattle.wk_view_rules.specs.Views.{Expanded, view, shown_text}
use Rattle.wk_view_rules.specs.Worlds.{World, Read, of_world, page_of, is_read_of, IsHonest}
use Rattle.wk_view_rules.specs.declared.Kind.TheVariants.{View}
use Rattle.wk_wiki_rules.specs.States.{State, world_of}
use Rattle.wk_wiki_rules.specs.Events.{Event}
use Rattle.wk_wiki_rules.specs.Lives.{state_at}
use Rattle.wk_wiki_rules.specs.Starts.{Start}

-- what a caller has seen: the wiki's start, the journal, and the places in it, from 0, of the entries that it made
pub record PassSeen : Type 0 where
  pub start : Start
  pub journal : List Event
  pub own : List ℕ

-- the state at a point: after so many of the events that were seen
abbrev pub state_seen : PassSeen → ℕ → Option State
state_seen pass point = state_at pass.start.state pass.journal point

-- ---- reads

-- the number of the title's page, 0 where the page is missing
abbrev pub shown_number : History → PageTitle → ℕ
shown_number h title = if page_exists h title then unwrap_or (page_number h title) 0 else 0

-- what a page, or a text in the place of its own, expands to in a world
abbrev pub drafted_in : World → PageTitle → Option (List ℕ) → Outcome Expanded
drafted_in pages page None = view (of_world pages) page
drafted_in pages page (Some text) = shown_text (of_world pages) page text

-- what is answered to a read: what the page, or the given text, expands to, what was read for it, the page's number, and
-- the point at which it is so
pub record PageReading : Type 0 where
  pub page : PageTitle
  pub given : Option (List ℕ)
  pub expanded : Expanded
  pub reads : List Read
  pub number : ℕ
  pub point : ℕ

-- the answer is right at its point, which the caller has seen
pub record IsReadAt (pass : PassSeen) (reading : PageReading) : Type 0 where
  pub state : State
  pub seen : reading.point ≤ length pass.journal
  pub at : state_seen pass reading.point ≡ Some state
  pub drafted : drafted_in (world_of state) reading.page reading.given ≡ done reading.expanded reading.reads
  pub numbered : reading.number ≡ shown_number state.history reading.page

-- ---- caches

-- how often an entry is served before it is checked again
abbrev pub max_uses : ℕ
max_uses = 16

-- bytes of the output of a draft that is kept
abbrev pub max_kept_output : ℕ
max_kept_output = 1048576

-- what a cache keeps of a page: the answer to a read of its own text, and how often it was served since it was checked
pub record CacheEntry : Type 0 where
  pub reading : PageReading
  pub uses : ℕ

-- what a caller's own cache keeps is right at its point
pub record IsKeptRead (pass : PassSeen) (entry : CacheEntry) : Type 0 where
  pub own_text : entry.reading.given ≡ None
  pub right : IsReadAt pass entry.reading
  pub uses : entry.uses ≤ max_uses

-- the number of a page by what was read of it: 0 where its own text was read to be missing
abbrev pub number_by_reads : History → PageTitle → List Read → ℕ
number_by_reads h page reads =
    let text = option_and_then (λ (read : Read). page_of read.answer) (find (is_read_of page View) reads) in
    if is_some text then unwrap_or (page_number h page) 0 else 0

-- What a wiki's cache keeps need not be current. Each text that was read for it is the text of its revision, so that its
-- reads can be checked by their marks.
pub record IsHonestEntry (state : State) (entry : CacheEntry) : Type 0 where
  pub own_text : entry.reading.given ≡ None
  pub honest : IsHonest (text_of_revision state.history) entry.reading.reads
  pub numbered : entry.reading.number ≡ number_by_reads state.history entry.reading.page entry.reading.reads
