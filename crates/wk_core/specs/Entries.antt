-- Entries by their numbers.
use Rattle.std.specs.Prelude.{ℕ, ◌-◌, ◌==◌, List, slice_get, Option, None, if◌then◌else◌}
use Rattle.wk_page_rules.specs.History.{next_revision}
use Rattle.wk_wiki_rules.specs.Entries.{entries_from}
use Rattle.wk_wiki_rules.specs.declared.Entry.{Entry}
use Rattle.wk_core.specs.Seen.{WikiSeen}

-- the entry with this number, from 1
abbrev pub entry_at : List Entry → ℕ → Option Entry
entry_at entries number = if number == 0 then None else slice_get entries (number - 1)

-- the entries of the journal
abbrev pub entries_seen : {K : Type 0} → WikiSeen K → List Entry
entries_seen wiki = entries_from (next_revision wiki.start.state.history) wiki.journal
