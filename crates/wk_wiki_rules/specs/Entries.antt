-- How a journal is kept (own): which earlier place an event closes, when a journal keeps its seal, and the entries that
-- stand for events. Places are counted from 0, entries and revisions from 1.
use Rattle.std.specs.Prelude.{◌≡◌, ℕ, ◌+◌, ◌-◌, Bool, true, false, ◌==◌, List, [], ◌∷◌, drop, slice_get, filter_map, Option, Some, None, IsSome, option_map, if◌then◌else◌}
use Rattle.std.specs.List.{list_any}
use Rattle.wk_page_rules.specs.History.{History, Revision}
use Rattle.wk_wiki_rules.specs.States.{title_at}
use Rattle.wk_wiki_rules.specs.Events.{Event, Save, Claim, Done, Back, Fan}
use Rattle.wk_wiki_rules.specs.declared.Entry.{Entry}
use Rattle.wk_wiki_rules.specs.declared.Entry.TheVariants as entry

-- ---- places that are closed

-- A refresh that is done or given back closes the place of its claim: a ticket is the number of its claim's entry.
abbrev pub closes : Event → Option ℕ
closes (Save title text moment) = None
closes Claim = None
closes (Done ticket) = Some (ticket - 1)
closes (Back ticket) = Some (ticket - 1)
closes Fan = None

-- ---- seals

abbrev pub is_save : Event → Bool
is_save (Save title text moment) = true
is_save Claim = false
is_save (Done ticket) = false
is_save (Back ticket) = false
is_save Fan = false

-- behind the point at which the wiki was sealed, where it was, the journal has no save
abbrev pub KeepsSeal : Option ℕ → List Event → Type 0
KeepsSeal None journal = Unit {0}
KeepsSeal (Some point) journal = list_any is_save (drop point journal) ≡ false

-- ---- entries

-- the entries of events, of which the first save makes the revision with this number
abbrev pub entries_from : ℕ → List Event → List Entry
entries_from next [] = []
entries_from next (Save title text moment ∷ events) = entry.Save next ∷ entries_from (next + 1) events
entries_from next (Claim ∷ events) = entry.Claim ∷ entries_from next events
entries_from next (Done ticket ∷ events) = entry.Done ticket ∷ entries_from next events
entries_from next (Back ticket ∷ events) = entry.Back ticket ∷ entries_from next events
entries_from next (Fan ∷ events) = entry.Fan ∷ entries_from next events

-- the revision with this number
abbrev pub revision_at : History → ℕ → Option Revision
revision_at h number = if number == 0 then None else slice_get h.revisions (number - 1)

-- the save that made a revision
abbrev pub save_of_revision : History → Revision → Event
save_of_revision h revision = Save (title_at h revision.page) revision.text revision.moment

-- the event that an entry stands for, by a history that has its revision
abbrev pub event_of_entry : History → Entry → Option Event
event_of_entry h (entry.Save number) = option_map (save_of_revision h) (revision_at h number)
event_of_entry h entry.Claim = Some Claim
event_of_entry h (entry.Done ticket) = Some (Done ticket)
event_of_entry h (entry.Back ticket) = Some (Back ticket)
event_of_entry h entry.Fan = Some Fan

-- the events that entries stand for
abbrev pub events_of : History → List Entry → List Event
events_of h entries = filter_map (event_of_entry h) entries

-- the history has the revision of the entry, where it is a save
abbrev pub IsTold : History → Entry → Type 0
IsTold h entry = IsSome (event_of_entry h entry)
