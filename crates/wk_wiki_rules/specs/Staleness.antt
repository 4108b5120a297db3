-- Which of a draft's reads isn't current any more (own; MediaWiki compares page_touched in its place).
use Rattle.std.specs.Prelude.{ℕ, Bool, ◌==◌, not, List, find, Option, is_some, option_map, if◌then◌else◌}
use Rattle.wk_text_rules.specs.Titles.{PageTitle}
use Rattle.wk_view_rules.specs.Worlds.{World, Read, answer_in, mark}
use Rattle.wk_view_rules.specs.declared.Kind.{Kind}
use Rattle.wk_wiki_rules.specs.Events.{Event, Done, Back}

-- the mark that a read would have now
abbrev pub present_mark : World → Read → ℕ
present_mark pages read = mark (answer_in pages read.title read.kind)

-- the mark isn't the present one: of a text another revision, of a test of existence another answer
abbrev pub is_stale : World → Read → Bool
is_stale pages read = not (mark read.answer == present_mark pages read)

-- a read that isn't current: the mark that was read, and the present one
pub record StaleRead : Type 0 where
  pub title : PageTitle
  pub kind : Kind
  pub read : ℕ
  pub now : ℕ

abbrev pub stale_read : World → Read → StaleRead
stale_read pages read = record {
  title = read.title;
  kind = read.kind;
  read = mark read.answer;
  now = present_mark pages read;
}

-- the first of the reads that isn't current; nothing where each is
abbrev pub first_stale : World → List Read → Option StaleRead
first_stale pages reads = option_map (stale_read pages) (find (is_stale pages) reads)

-- The event by which a refresh comes in that was drafted with these reads, where nothing fails: its rows are set where each
-- read is current, else it is given back.
abbrev pub event_of_finish : World → List Read → ℕ → Event
event_of_finish pages reads ticket = if is_some (first_stale pages reads) then Back ticket else Done ticket
