-- The rounds of a drain.
use Rattle.std.specs.Prelude.{◌≡◌, ◌≢◌, ◌⊎◌, ℕ, ◌+◌, ◌≤◌, ◌<◌, false, List, [], ◌∷◌, ◌++◌, length, Option, Some, None, IfNone, IsSome}
use Rattle.std.specs.List.{list_any}
use Rattle.wk_base.specs.Faults.{Rose}
use Rattle.wk_page_rules.specs.Verdict.{max_job}
use Rattle.wk_table_rules.specs.Rows.{StoreTables}
use Rattle.wk_wiki_rules.specs.States.{State}
use Rattle.wk_wiki_rules.specs.Events.{Event, Claim, Done, Back, Fan}
use Rattle.wk_wiki_rules.specs.Lives.{Lives, reopened, replay}
use Rattle.wk_wiki_laws.specs.Numbers.{pages_ahead}
use Rattle.wk_core.specs.Seen.{WikiSeen}
use Rattle.wk_core.specs.Steps.{GoesOn, HasMade, HasMadeNothing}
use Rattle.wk_tools.specs.Drains.{HasNoJob}
use Rattle.wk_tools.specs.Lived.{HasMadeEach, has_save}
use Rattle.wk_tools.specs.declared.drains.DrainEnd.{DrainEnd}
use Rattle.wk_tools.specs.declared.drains.DrainEnd.TheVariants as end

-- behind a restart that doesn't read the store
abbrev pub renewed : {K : Type 0} → WikiSeen K → WikiSeen K
renewed wiki = record wiki {
  start = record wiki.start { state = reopened wiki.state; sealed = None };
  journal = [];
  state = reopened wiki.state;
}

-- a journal that isn't empty begins anew
pub record Renews {K : Type 0} (old new : WikiSeen K) : Type 0 where
  pub some : 0 < length old.journal
  pub is : new ≡ record (renewed old) { keeper = new.keeper }

-- a round behind which a drain goes on
pub data GoesOnBy {K : Type 0} : WikiSeen K → WikiSeen K → Type 0 where
  by_fan : {old new : WikiSeen K} → HasMade old new Fan → GoesOnBy old new
  by_refresh : {old new : WikiSeen K} → HasMadeEach old new (Claim ∷ Done (length old.journal + 1) ∷ []) → GoesOnBy old new
  by_renewal : {old new : WikiSeen K} → Renews old new → GoesOnBy old new

-- a round with which a drain ends: nothing happened, or a job was claimed and is queued again
pub data EndsBy {K : Type 0} (told : K → Option StoreTables) : WikiSeen K → WikiSeen K → Type 0 where
  with_nothing : {old new : WikiSeen K} → HasMadeNothing told old new → EndsBy told old new
  with_return : {old new : WikiSeen K} → HasMadeEach old new (Claim ∷ Back (length old.journal + 1) ∷ []) → EndsBy told old new

-- some job is left, and there is no room for the next event even in an empty journal
pub record IsFull {K : Type 0} (wiki : WikiSeen K) : Type 0 where
  pub left : ¬ HasNoJob wiki.state
  pub cause : (wiki.start.limits.journal < 2) ⊎ (max_job < wiki.state.jobs.next)

-- what one round leaves, and how the drain ends with it, if it does
pub record IsRound {K : Type 0} (told : K → Option StoreTables) (faults : K → ℕ) (old new : WikiSeen K) (answer : Option DrainEnd) : Type 0 where
  pub goes : IfNone answer (GoesOnBy old new)
  pub ends : IsSome answer → EndsBy told old new
  pub done : answer ≡ Some end.Done → HasNoJob new.state
  pub full : answer ≡ Some end.JournalFull → IsFull old
  pub fault : answer ≡ Some end.StoreFault → Rose (faults old.keeper) (faults new.keeper)
  pub no_fault : answer ≢ Some end.StoreFault → faults new.keeper ≡ faults old.keeper
  pub keeper : GoesOn told faults old new

-- The wiki lives on as a drain has it: in its first life, or in a later one that began behind others.
pub data LivesOn {K : Type 0} : WikiSeen K → WikiSeen K → Type 0 where
  in_first : {old new : WikiSeen K} (added : List Event)
      → new.start ≡ old.start → new.journal ≡ old.journal ++ added → has_save added ≡ false → LivesOn old new
  in_later : {old new : WikiSeen K} (added : List Event) (ended last : State) (later : List (List Event))
      → replay old.start.state (old.journal ++ added) ≡ Some ended → Lives ended later last → new.start.state ≡ reopened last
      → has_save added ≡ false → list_any has_save later ≡ false → has_save new.journal ≡ false → LivesOn old new

-- what holds from the beginning of a drain on
pub record Drains {K : Type 0} (told : K → Option StoreTables) (faults : K → ℕ) (old new : WikiSeen K) : Type 0 where
  pub lives : LivesOn old new
  pub limits : new.start.limits ≡ old.start.limits
  pub whole : new.start.whole ≡ old.start.whole
  pub unsealed : old.start.sealed ≡ None → new.start.sealed ≡ None
  pub history : new.state.history ≡ old.state.history
  pub left : HasNoJob old.state → HasNoJob new.state
  -- the numbers of jobs don't come nearer to their end than the pages that fans may serve allow
  pub ahead : new.state.jobs.next + pages_ahead new.state ≤ old.state.jobs.next + pages_ahead old.state
  pub keeper : GoesOn told faults old new
