-- What a cache keeps in the worked examples.
use Rattle.std.specs.Prelude.{true, [], None, Some}
use Rattle.wk_text_rules.specs.Titles.{PageTitle}
use Rattle.wk_page_rules.specs.Verdict.{full_limits}
use Rattle.wk_view_rules.specs.Expansions.{no_counters}
use Rattle.wk_view_rules.specs.Plans.{done, need}
use Rattle.wk_view_rules.specs.Views.{Expanded, reads, view}
use Rattle.wk_view_rules.specs.Worlds.{World, of_world}
use Rattle.wk_wiki_rules.specs.States.{no_state, world_of}
use Rattle.wk_wiki_rules.specs.Passes.{CacheEntry, PassSeen}
use Rattle.wk_examples.specs.Wikis.{title_p, race, race_6}

-- what a page expands to in a world
abbrev pub expanded_in : World → PageTitle → Expanded
expanded_in pages title = elim (view (of_world pages) title) [
  | done expanded seen ↦ expanded
  | need wanted kind seen ↦ record { out = []; counters = no_counters }
]

-- P, as it was read behind six events of the race
abbrev pub cached : CacheEntry
cached = record {
  reading = record {
    page = title_p;
    given = None;
    expanded = expanded_in (world_of race_6) title_p;
    reads = reads (of_world (world_of race_6)) title_p;
    number = 1;
    point = 6;
  };
  uses = 2;
}

-- a caller that has seen the whole race
abbrev pub whole_race : PassSeen
whole_race = record {
  start = record { state = no_state; limits = full_limits; whole = true; tells = true; failed = Some 0; sealed = None };
  journal = race;
  own = [];
}
