-- What calls answer over a whole store, where memory doesn't run out (own).
use Rattle.std.specs.Prelude.{◌≡◌, ◌≢◌, ℕ, ◌-◌, ◌<◌, ◌^◌, Bool, true, false, List, All, Option, Some, option_map, Result, Err, is_ok, IfOk, IfErr}
use Rattle.wk_page_rules.specs.History.{History}
use Rattle.wk_page_rules.specs.Verdict.{EditAsked, Verdict, refuse, no_change, accept}
use Rattle.wk_view_rules.specs.Worlds.{Read, World, mark}
use Rattle.wk_wiki_rules.specs.States.{State, world_of}
use Rattle.wk_wiki_rules.specs.Events.{Event}
use Rattle.wk_wiki_rules.specs.Verdicts.{event_of, verdict_in}
use Rattle.wk_wiki_rules.specs.SaveOutcomes.{save_outcome}
use Rattle.wk_wiki_rules.specs.Staleness.{event_of_finish, first_stale, present_mark}
use Rattle.wk_wiki_rules.specs.Starts.{Start}
use Rattle.wk_revs.specs.Verdict.{refusal_of}
use Rattle.wk_revs.specs.declared.verdict.SaveRefusal.{SaveRefusal}
use Rattle.wk_revs.specs.declared.verdict.SaveRefusal.TheVariants as refusal
use Rattle.wk_core.specs.Answers.{saved_outcome, told_stale}
use Rattle.wk_core.specs.Seen.{WikiSeen}
use Rattle.wk_core.specs.declared.outcomes.Finished.{Finished}
use Rattle.wk_core.specs.declared.outcomes.Finished.TheVariants as finished
use Rattle.wk_core.specs.declared.outcomes.Saved.{Saved}

-- ---- stores

-- a count of faults that can rise still
abbrev pub CanRise : ℕ → Type 0
CanRise count = count < 2 ^ 64 - 1

-- The wiki's store is whole, and its count of faults isn't at its end: no call of it fails.
pub record IsOverAWholeStore {K : Type 0} (faults : K → ℕ) (wiki : WikiSeen K) : Type 0 where
  pub whole : wiki.start.whole ≡ true
  pub count : CanRise (faults wiki.keeper)

-- The same of a shared wiki: it began over a whole store, whose count of faults wasn't at its end.
pub record BeganOverAWholeStore (start : Start) : Type 0 where
  pub count : ℕ
  pub failed : start.failed ≡ Some count
  pub rises : CanRise count

-- ---- saves

-- the edit is accepted, or it changes nothing
abbrev pub is_granted : Verdict → Bool
is_granted (refuse refusal) = false
is_granted (no_change title) = true
is_granted (accept title text) = true

-- The answer to an edit, or to a deletion, by its verdict: Ok exactly where that is no refusal, with what is told of it then;
-- else the refusal of the verdict, and no other.
pub record IsSaveAnswer (h : History) (verdict : Verdict) (answer : Result Saved SaveRefusal) : Type 0 where
  pub ok : is_ok answer ≡ is_granted verdict
  pub saved : IfOk answer (λ saved. Some (saved_outcome saved) ≡ save_outcome h verdict)
  pub refused : IfErr answer (λ refusal. option_map refuse (refusal_of refusal) ≡ Some verdict)

-- ---- refreshes

-- each of the reads is current: its mark is the present one
abbrev pub AreCurrent : World → List Read → Type 0
AreCurrent pages reads = All (λ (read : Read). mark read.answer ≡ present_mark pages read) reads

-- The answer to a refresh that comes in, by the reads of its draft: it is done exactly where each of them is current, and else
-- the first that isn't is told.
pub record IsFinishAnswer (pages : World) (reads : List Read) (answer : Finished) : Type 0 where
  pub done : AreCurrent pages reads → answer ≡ finished.Done
  pub current : answer ≡ finished.Done → AreCurrent pages reads
  pub stale : told_stale answer ≡ first_stale pages reads
  pub no_fault : answer ≢ finished.StoreFault

-- ---- the same of calls of a shared wiki

-- a save or a deletion, unless memory ran out: the answer by the verdict, and the event of that
pub record IsSaveInTurn (edit : EditAsked) (now : ℕ) (answer : Result Saved SaveRefusal) (start : Start) (state : State) (point : ℕ) (event : Option Event) : Type 0 where
  pub answered : answer ≢ Err refusal.Memory → IsSaveAnswer state.history (verdict_in start.limits state point edit) answer
  pub made : answer ≢ Err refusal.Memory → event ≡ event_of (verdict_in start.limits state point edit) now

-- a refresh that comes in, unless memory ran out
pub record IsFinishInTurn (ticket : ℕ) (reads : List Read) (answer : Finished) (start : Start) (state : State) (point : ℕ) (event : Option Event) : Type 0 where
  pub answered : answer ≢ finished.Memory → IsFinishAnswer (world_of state) reads answer
  pub made : answer ≢ finished.Memory → event ≡ Some (event_of_finish (world_of state) reads ticket)
