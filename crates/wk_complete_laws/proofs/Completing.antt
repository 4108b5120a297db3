-- What is left of a call's answers where no store fails.
use Rattle.std.proofs.Common.{◌≡◌, ◌≢◌, ℕ, ◌-◌, true, false, not, cond, List, [], ◌∷◌, Option, Some, None, Result, Ok, Err, refl, sym, ap, ◌∙◌, subst, inl, inr, arith, eq-eqb}
use Rattle.std.specs.Prelude.{◌^◌, ◌≤◌, IfErr, IfOk, IfSome, OnErr, OnOk, is_some, option_map}
use Rattle.std.specs.List.{AllByRecursion}
use Rattle.std.proofs.lemmas.Bool.{cases_Bool, eqb-true, not-false}
use Rattle.std.proofs.lemmas.List.Elements.{All-from_recursion, recursion_from_All}
use Rattle.wk_base.specs.Faults.{Rose}
use Rattle.wk_table_rules.specs.Rows.{StoreTables}
use Rattle.wk_page_rules.specs.History.{History}
use Rattle.wk_page_rules.specs.Verdict.{EditAsked, Refusal, Verdict, refuse, no_change, accept}
use Rattle.wk_view_rules.specs.Worlds.{Read, World, mark}
use Rattle.wk_wiki_rules.specs.States.{State, world_of}
use Rattle.wk_wiki_rules.specs.Events.{Event, Back, Done}
use Rattle.wk_wiki_rules.specs.Verdicts.{event_of, verdict_in}
use Rattle.wk_wiki_rules.specs.SaveOutcomes.{SaveOutcome, save_outcome}
use Rattle.wk_wiki_rules.specs.Staleness.{StaleRead, event_of_finish, first_stale, is_stale, present_mark, stale_read}
use Rattle.wk_wiki_rules.specs.Starts.{Start}
use Rattle.wk_revs.specs.Verdict.{refusal_of}
use Rattle.wk_revs.specs.declared.verdict.SaveRefusal.{SaveRefusal}
use Rattle.wk_revs.specs.declared.verdict.SaveRefusal.TheVariants as refusal
use Rattle.wk_core.specs.Answers.{event_of_answer, saved_outcome, told_stale}
use Rattle.wk_core.specs.Seen.{WikiSeen}
use Rattle.wk_core.specs.Steps.{GoesOn, HasMade, HasMadeAtMost, HasMadeNothing}
use Rattle.wk_core.specs.declared.outcomes.Finished.{Finished}
use Rattle.wk_core.specs.declared.outcomes.Finished.TheVariants as finished
use Rattle.wk_core.specs.declared.outcomes.Saved.{Saved}
use Rattle.wk_turn.specs.Told.{Story}
use Rattle.wk_shared.specs.Answers.{FinishTold, SaveTold}
use Rattle.wk_shared.specs.Calls.{IsMadeAt, MayFail}
use Rattle.wk_complete_laws.specs.Complete.{AreCurrent, BeganOverAWholeStore, CanRise, IsFinishAnswer, IsFinishInTurn, IsOverAWholeStore, IsSaveAnswer, IsSaveInTurn, is_granted}

-- ---- counts

-- a count that stays doesn't rise, unless it stands at its end
pub stays : (before now : ℕ) → CanRise before → now ≡ before → Rose before now → ⊥
stays before now free same rose = omega (arith, free, same, rose)

module _ {K : Type 0} (told : K → Option StoreTables) (faults : K → ℕ) (old new : WikiSeen K) where
  pub no-rise : IsOverAWholeStore faults old → GoesOn told faults old new → Rose (faults old.keeper) (faults new.keeper) → ⊥
  no-rise over goes rose = stays (faults old.keeper) (faults new.keeper) over.count (goes.whole over.whole) rose

  pub still-whole : new.start ≡ old.start → IsOverAWholeStore faults old → GoesOn told faults old new → IsOverAWholeStore faults new
  still-whole start over goes = record {
    whole = ap (λ (s : Start). s.whole) start ∙ over.whole;
    count = subst CanRise (sym (goes.whole over.whole)) over.count;
  }

  -- whether an event was made or nothing happened, the wiki began as before
  start-made : (event : Option Event) → HasMadeAtMost told old new event → new.start ≡ old.start
  start-made None made = ap (λ (w : WikiSeen K). w.start) made.wiki
  start-made (Some event) made = made.start

  pub start-kept : {A B : Type 0} (event : Option Event) (answer : Result A B) → OnOk answer (HasMadeAtMost told old new event) → OnErr answer (HasMadeNothing told old new) → new.start ≡ old.start
  start-kept event (Ok _) made nothing = start-made event made
  start-kept event (Err _) made nothing = start-made None nothing

-- ---- saves

granted : (h : History) (verdict : Verdict) (outcome : SaveOutcome) → Some outcome ≡ save_outcome h verdict → true ≡ is_granted verdict
granted h (refuse refusal) outcome is = absurd (let e : Some outcome ≡ None = is in cc)
granted h (no_change title) outcome is = refl
granted h (accept title text) outcome is = refl

refused-with : (h : History) (verdict : Verdict) (r : SaveRefusal) (cause : Refusal) → refusal_of r ≡ Some cause → verdict ≡ refuse cause → IsSaveAnswer h verdict (Err r)
refused-with h verdict r cause named is = record {
  ok = ap is_granted (sym is);
  saved = tt;
  refused = ap (option_map refuse) named ∙ ap Some (sym is);
}

pub save-answer : (h : History) (verdict : Verdict) (answer : Result Saved SaveRefusal)
    → IfOk answer (λ saved. Some (saved_outcome saved) ≡ save_outcome h verdict)
    → IfErr answer (λ r. IfSome (refusal_of r) (λ cause. verdict ≡ refuse cause))
    → (answer ≡ Err refusal.StoreFault → ⊥) → answer ≢ Err refusal.Memory → IsSaveAnswer h verdict answer
save-answer h verdict (Ok saved) is refused fault memory = record { ok = granted h verdict (saved_outcome saved) is; saved = is; refused = tt }
save-answer h verdict (Err refusal.InvalidTitle) is refused fault memory = refused-with h verdict _ _ refl refused
save-answer h verdict (Err refusal.ContentTooBig) is refused fault memory = refused-with h verdict _ _ refl refused
save-answer h verdict (Err refusal.ArticleExists) is refused fault memory = refused-with h verdict _ _ refl refused
save-answer h verdict (Err refusal.MissingTitle) is refused fault memory = refused-with h verdict _ _ refl refused
save-answer h verdict (Err (refusal.EditConflict current)) is refused fault memory = refused-with h verdict _ _ refl refused
save-answer h verdict (Err (refusal.WikiFull limit)) is refused fault memory = refused-with h verdict _ _ refl refused
save-answer h verdict (Err refusal.JournalFull) is refused fault memory = refused-with h verdict _ _ refl refused
save-answer h verdict (Err refusal.Memory) is refused fault memory = absurd (memory refl)
save-answer h verdict (Err refusal.StoreFault) is refused fault memory = absurd (fault refl)

-- the event of a verdict, whatever was answered by it
no-event : (verdict : Verdict) (now : ℕ) (r : SaveRefusal) → option_map refuse (refusal_of r) ≡ Some verdict → event_of verdict now ≡ None
no-event (refuse cause) now r is = refl
no-event (no_change title) now r is = absurd (by (refusal_of r) is)
  where
    by : (o : Option Refusal) → option_map refuse o ≡ Some (no_change title) → ⊥
    by None e = let f : None ≡ Some (no_change title) = e in cc
    by (Some cause) e = let f : Some (refuse cause) ≡ Some (no_change title) = e in cc
no-event (accept title text) now r is = absurd (by (refusal_of r) is)
  where
    by : (o : Option Refusal) → option_map refuse o ≡ Some (accept title text) → ⊥
    by None e = let f : None ≡ Some (accept title text) = e in cc
    by (Some cause) e = let f : Some (refuse cause) ≡ Some (accept title text) = e in cc

pub save-event : {K : Type 0} (told : K → Option StoreTables) (old new : WikiSeen K) (h : History) (verdict : Verdict) (now : ℕ) (answer : Result Saved SaveRefusal)
    → IsSaveAnswer h verdict answer → IfOk answer (λ _. HasMadeAtMost told old new (event_of verdict now)) → IfErr answer (λ _. HasMadeNothing told old new)
    → HasMadeAtMost told old new (event_of verdict now)
save-event told old new h verdict now (Ok saved) is made nothing = made
save-event told old new h verdict now (Err r) is made nothing =
    subst (λ (e : Option Event). HasMadeAtMost told old new e) (sym (no-event verdict now r is.refused)) nothing

pub save-nothing : {A : Type 0} (answer : Result A SaveRefusal) (P : Type 0) → IfErr answer (λ _. P) → answer ≡ Err refusal.Memory → P
save-nothing answer P nothing is = subst (λ (r : Result _ SaveRefusal). IfErr r (λ _. P)) is nothing

pub event-made : (h : History) (verdict : Verdict) (now : ℕ) (answer : Result Saved SaveRefusal) (event : Option Event)
    → IsSaveAnswer h verdict answer → IfOk answer (λ _. event ≡ event_of verdict now) → IfErr answer (λ _. event ≡ None) → event ≡ event_of verdict now
event-made h verdict now (Ok saved) event is made nothing = made
event-made h verdict now (Err r) event is made nothing = nothing ∙ sym (no-event verdict now r is.refused)

-- ---- refreshes

module _ (pages : World) where
  abbrev IsFresh : Read → Type 0
  IsFresh read = mark read.answer ≡ present_mark pages read

  found-none : (reads : List Read) → AllByRecursion IsFresh reads → first_stale pages reads ≡ None
  found-none [] fresh = refl
  found-none (read ∷ reads) fresh =
      let here : is_stale pages read ≡ false = ap not (eq-eqb (mark read.answer) (present_mark pages read) fresh.0) in
      rw here (found-none reads fresh.1)

  none-found : (reads : List Read) → first_stale pages reads ≡ None → AllByRecursion IsFresh reads
  none-found [] none = tt
  none-found (read ∷ reads) none = elim (cases_Bool (is_stale pages read)) [
    | inl stale ↦ absurd (let e : Some (stale_read pages read) ≡ None = rw stale at none in cc)
    | inr fresh ↦ (eqb-true (mark read.answer) (present_mark pages read) (not-false _ fresh), none-found reads (rw fresh at none))
  ]

  -- no read is stale where each mark is the present one, and only so
  current-none : (reads : List Read) → AreCurrent pages reads → first_stale pages reads ≡ None
  current-none reads are = found-none reads (recursion_from_All IsFresh reads are)

  none-current : (reads : List Read) → first_stale pages reads ≡ None → AreCurrent pages reads
  none-current reads none = All-from_recursion IsFresh reads (none-found reads none)

  pub finish-answer : (reads : List Read) (answer : Finished) → (answer ≢ finished.Memory → told_stale answer ≡ first_stale pages reads)
      → (answer ≡ finished.StoreFault → ⊥) → answer ≢ finished.Memory → IsFinishAnswer pages reads answer
  finish-answer reads finished.Done told fault memory = record {
    done = λ are. refl;
    current = λ is. none-current reads (sym (told memory));
    stale = told memory;
    no_fault = λ is. fault is;
  }
  finish-answer reads (finished.Stale title kind read now) told fault memory = record {
    done = λ are. absurd (let e : told_stale (finished.Stale title kind read now) ≡ None = told memory ∙ current-none reads are in cc);
    current = λ is. absurd (let e : finished.Stale title kind read now ≡ finished.Done = is in cc);
    stale = told memory;
    no_fault = λ is. fault is;
  }
  finish-answer reads finished.StoreFault told fault memory = absurd (fault refl)
  finish-answer reads finished.Memory told fault memory = absurd (memory refl)

  pub finish-event : (reads : List Read) (ticket : ℕ) (answer : Finished) → IsFinishAnswer pages reads answer → answer ≢ finished.Memory
      → event_of_answer ticket answer ≡ event_of_finish pages reads ticket
  finish-event reads ticket finished.Done is memory = ap (λ (o : Option StaleRead). cond (is_some o) (Back ticket) (Done ticket)) is.stale
  finish-event reads ticket (finished.Stale title kind read now) is memory =
      ap (λ (o : Option StaleRead). cond (is_some o) (Back ticket) (Done ticket)) is.stale
  finish-event reads ticket finished.StoreFault is memory = absurd (is.no_fault refl)
  finish-event reads ticket finished.Memory is memory = absurd (memory refl)

pub made-by : {K : Type 0} (old new : WikiSeen K) (event other : Event) → event ≡ other → HasMade old new event → HasMade old new other
made-by old new event other same made = subst (HasMade old new) same made

-- a refresh for which memory ran out is given back
pub given-back : {K : Type 0} (old new : WikiSeen K) (ticket : ℕ) (answer : Finished) → answer ≡ finished.Memory
    → HasMade old new (event_of_answer ticket answer) → HasMade old new (Back ticket)
given-back old new ticket answer is made = subst (λ (a : Finished). HasMade old new (event_of_answer ticket a)) is made

-- ---- calls of a shared wiki

-- a store that began whole doesn't fail
pub never-fails : (start : Start) → BeganOverAWholeStore start → MayFail start → ⊥
never-fails start began may =
    let free = began.rises in
    let full = subst (λ (failed : Option ℕ). IfSome failed (λ n. 2 ^ 64 - 1 ≤ n)) began.failed may in
    omega (arith, free, full)

pub made-at : (start : Start) (old new : Story Start Event) (Call Other : Start → State → ℕ → Option Event → Type 0)
    → ((state : State) (point : ℕ) (event : Option Event) → Call start state point event → Other start state point event)
    → IsMadeAt start old new Call → IsMadeAt start old new Other
made-at start old new Call Other leads x = record {
  at = x.at;
  later = x.later;
  state = x.state;
  stands = x.stands;
  event = x.event;
  adds = x.adds;
  call = leads x.state x.at x.event x.call;
  tickets = x.tickets;
}

pub save-in-turn : (edit : EditAsked) (now : ℕ) (answer : Result Saved SaveRefusal) (start : Start) (state : State) (point : ℕ) (event : Option Event)
    → (answer ≡ Err refusal.StoreFault → ⊥) → SaveTold edit now answer start state point event → IsSaveInTurn edit now answer start state point event
save-in-turn edit now answer start state point event fault told =
    let verdict : Verdict = verdict_in start.limits state point edit in
    let is : answer ≢ Err refusal.Memory → IsSaveAnswer state.history verdict answer = λ memory. save-answer state.history verdict answer told.saved told.refusal fault memory in
    record {
      answered = is;
      made = λ memory. event-made state.history verdict now answer event (is memory) told.made told.refused;
    }

pub finish-in-turn : (ticket : ℕ) (reads : List Read) (answer : Finished) (start : Start) (state : State) (point : ℕ) (event : Option Event)
    → (answer ≡ finished.StoreFault → ⊥) → FinishTold ticket reads answer start state point event → IsFinishInTurn ticket reads answer start state point event
finish-in-turn ticket reads answer start state point event fault told =
    let is : answer ≢ finished.Memory → IsFinishAnswer (world_of state) reads answer = λ memory. finish-answer (world_of state) reads answer told.stale fault memory in
    record {
      answered = is;
      made = λ memory. told.made ∙ ap Some (finish-event (world_of state) reads ticket answer (is memory) memory);
    }
