-- What the wiki's calls answer, as the rules have it.
use Rattle.std.specs.Prelude.{ℕ, ◌==◌, Option, Some, None, if◌then◌else◌}
use Rattle.wk_text_rules.specs.Titles.{PageTitle}
use Rattle.wk_wiki_rules.specs.SaveOutcomes.{SaveNumbers, SaveOutcome, created, changed, unchanged}
use Rattle.wk_wiki_rules.specs.Fans.{FanOutcome}
use Rattle.wk_wiki_rules.specs.Staleness.{StaleRead}
use Rattle.wk_wiki_rules.specs.Events as event
use Rattle.wk_wiki_rules.specs.Events.{Event}
use Rattle.wk_keeper.specs.declared.keeper.KeeperRefusal.{KeeperRefusal}
use Rattle.wk_keeper.specs.declared.keeper.KeeperRefusal.TheVariants as keeper
use Rattle.wk_core.specs.declared.outcomes.Saved.{Saved}
use Rattle.wk_core.specs.declared.outcomes.Saved.TheVariants.{New, Changed, NoChange}
use Rattle.wk_core.specs.declared.outcomes.Fanned.{Fanned}
use Rattle.wk_core.specs.declared.outcomes.LoadCause.{LoadCause}
use Rattle.wk_core.specs.declared.outcomes.LoadCause.TheVariants as load
use Rattle.wk_core.specs.declared.outcomes.Finished.{Finished}
use Rattle.wk_core.specs.declared.outcomes.Finished.TheVariants.{Done, Stale, StoreFault, Memory}

abbrev pub saved_outcome : Saved → SaveOutcome
saved_outcome (New title page old new) = created title (record { page = page; old = old; new = new })
saved_outcome (Changed title page old new) = changed title (record { page = page; old = old; new = new })
saved_outcome (NoChange title page) = unchanged title page

-- the numbers of a save of a page that was missing are those of a new page
abbrev pub told_of_save : PageTitle → SaveNumbers → SaveOutcome
told_of_save title numbers = if numbers.old == 0 then created title numbers else changed title numbers

abbrev pub fanned_outcome : Fanned → FanOutcome
fanned_outcome fanned = record { title = fanned.title; served = fanned.served; queued = fanned.queued }

-- the read that isn't current, where that is told
abbrev pub told_stale : Finished → Option StaleRead
told_stale Done = None
told_stale (Stale title kind read now) = Some (record { title = title; kind = kind; read = read; now = now })
told_stale StoreFault = None
told_stale Memory = None

-- the event by which a ticket comes in
abbrev pub event_of_answer : ℕ → Finished → Event
event_of_answer ticket Done = event.Done ticket
event_of_answer ticket (Stale title kind read now) = event.Back ticket
event_of_answer ticket StoreFault = event.Back ticket
event_of_answer ticket Memory = event.Back ticket

-- what is answered where the keeper refuses
abbrev pub refused_answer : KeeperRefusal → Finished
refused_answer keeper.Failed = StoreFault
refused_answer keeper.Memory = Memory

abbrev pub cause_of : KeeperRefusal → LoadCause
cause_of keeper.Failed = load.StoreFault
cause_of keeper.Memory = load.Memory
