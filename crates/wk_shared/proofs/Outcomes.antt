-- What each call of the wiki comes to: one event or none, which closes at most what is open, and what is told of it.
use Rattle.std.proofs.Common.{◌≡◌, ◌≢◌, ℕ, ◌+◌, ◌-◌, ◌≤◌, ◌^◌, Bool, true, false, min, List, length, Option, Some, None, refl, sym, ap, ◌∙◌, subst, arith}
use Rattle.std.specs.Prelude.{IsSome, IfSome, IfNone, Result, Ok, Err, IfOk, IfErr, OnOk, OnErr, option_map}
use Rattle.wk_base.specs.Faults.{Rose}
use Rattle.wk_table_rules.specs.Rows.{StoreTables}
use Rattle.wk_page_rules.specs.Verdict.{EditAsked, Verdict, refuse, no_change, accept}
use Rattle.wk_view_rules.specs.Worlds.{Read, answer_in}
use Rattle.wk_view_rules.specs.declared.Kind.{Kind}
use Rattle.wk_text_rules.specs.Titles.{PageTitle}
use Rattle.wk_wiki_rules.specs.Jobs.{first_fan, first_queued}
use Rattle.wk_wiki_rules.specs.Steps.{fan_pages}
use Rattle.wk_wiki_rules.specs.States.{State, world_of}
use Rattle.wk_wiki_rules.specs.Events.{Event, Claim, Back, Fan}
use Rattle.wk_wiki_rules.specs.Verdicts.{event_of}
use Rattle.wk_wiki_rules.specs.Claims.{ClaimOutcome, claim_outcome}
use Rattle.wk_wiki_rules.specs.Entries.{closes}
use Rattle.wk_wiki_rules.specs.Fans.{next_fan_outcome}
use Rattle.wk_wiki_rules.specs.SaveOutcomes.{save_outcome}
use Rattle.wk_wiki_rules.specs.Staleness.{first_stale}
use Rattle.wk_wiki_rules.specs.Starts.{Start}
use Rattle.wk_revs.specs.Verdict.{refusal_of}
use Rattle.wk_revs.specs.declared.verdict.SaveRefusal.{SaveRefusal}
use Rattle.wk_expand.specs.Answers.{answer_of}
use Rattle.wk_expand.specs.declared.answer.Answer.{Answer}
use Rattle.wk_core.specs.Answers.{event_of_answer, fanned_outcome, saved_outcome, told_stale}
use Rattle.wk_core.specs.Seen.{WikiSeen, failed_where, is_claim_refused_now, is_fan_refused_now, verdict_now}
use Rattle.wk_core.specs.Steps.{HasMade, HasMadeAtMost, HasMadeNothing}
use Rattle.wk_core.specs.declared.outcomes.ClaimRefusal.{ClaimRefusal}
use Rattle.wk_core.specs.declared.outcomes.ClaimRefusal.TheVariants as claim
use Rattle.wk_core.specs.declared.outcomes.FanRefusal.{FanRefusal}
use Rattle.wk_core.specs.declared.outcomes.FanRefusal.TheVariants as fan
use Rattle.wk_core.specs.declared.outcomes.Fanned.{Fanned}
use Rattle.wk_core.specs.declared.outcomes.Finished.{Finished}
use Rattle.wk_core.specs.declared.outcomes.Finished.TheVariants as finished
use Rattle.wk_core.specs.declared.outcomes.Saved.{Saved}
use Rattle.wk_turn.specs.Journal.{IsOpen}
use Rattle.wk_shared.specs.Answers.{BackTold, ClaimTold, FanTold, FetchTold, FinishTold, SaveTold}
use Rattle.wk_shared.specs.Calls.{MayFail}
use Rattle.wk_shared.specs.Desk.{ClosesOpen, TellsOf}

pub record Outcome {K : Type 0} (told : K → Option StoreTables) (own : List ℕ) (old new : WikiSeen K) (Call : Start → State → ℕ → Option Event → Type 0) : Type 0 where
  pub event : Option Event
  pub made : HasMadeAtMost told old new event
  pub closing : ClosesOpen old.journal own event
  pub call : Call old.start old.state (length old.journal) event

-- ---- what events close

save-closes : (journal : List Event) (own : List ℕ) (verdict : Verdict) (now : ℕ) → ClosesOpen journal own (event_of verdict now)
save-closes journal own (refuse refusal) now = tt
save-closes journal own (no_change title) now = tt
save-closes journal own (accept title text) now = λ p e. absurd (let wrong : None ≡ Some p = e in cc)

ticket-closes : (journal : List Event) (own : List ℕ) (ticket p : ℕ) → IsOpen closes journal own (ticket - 1) → Some (ticket - 1) ≡ Some p → IsOpen closes journal own p
ticket-closes journal own ticket p opened e = let same : ticket - 1 ≡ p = cc in subst (IsOpen closes journal own) same opened

finish-closes : (journal : List Event) (own : List ℕ) (ticket : ℕ) (answer : Finished) → IsOpen closes journal own (ticket - 1) → ClosesOpen journal own (Some (event_of_answer ticket answer))
finish-closes journal own ticket finished.Done opened = λ p e. ticket-closes journal own ticket p opened e
finish-closes journal own ticket (finished.Stale title kind read now) opened = λ p e. ticket-closes journal own ticket p opened e
finish-closes journal own ticket finished.StoreFault opened = λ p e. ticket-closes journal own ticket p opened e
finish-closes journal own ticket finished.Memory opened = λ p e. ticket-closes journal own ticket p opened e

-- ---- the calls

module _ {K : Type 0} (told : K → Option StoreTables) (own : List ℕ) (old new : WikiSeen K) where
  nothing-same : new ≡ old → HasMadeNothing told old new
  nothing-same e = record {
    wiki = λ i. record { start = (e i).start; journal = (e i).journal; state = (e i).state; keeper = new.keeper };
    tables = ap (λ (w : WikiSeen K). told w.keeper) e;
  }

  pub save-outcome : (edit : EditAsked) (now : ℕ) (answer : Result Saved SaveRefusal)
      → IfOk answer (λ saved. Some (saved_outcome saved) ≡ save_outcome old.state.history (verdict_now old edit))
      → OnOk answer (HasMadeAtMost told old new (event_of (verdict_now old edit) now))
      → IfErr answer (λ refusal. IfSome (refusal_of refusal) (λ cause. verdict_now old edit ≡ refuse cause))
      → OnErr answer (HasMadeNothing told old new) → Outcome told own old new (SaveTold edit now answer)
  save-outcome edit now (Ok saved) is made refusal refused = record {
    event = event_of (verdict_now old edit) now;
    made = made;
    closing = save-closes old.journal own (verdict_now old edit) now;
    call = record { saved = is; made = refl; refusal = tt; refused = tt };
  }
  save-outcome edit now (Err cause) is made refusal refused = record {
    event = None;
    made = refused;
    closing = tt;
    call = record { saved = tt; made = tt; refusal = refusal; refused = refl };
  }

  pub claim-made : (answer : Result (Option ClaimOutcome) ClaimRefusal)
      → IfOk answer (λ ticket. ticket ≡ claim_outcome old.state (length old.journal))
      → IfOk answer (λ ticket. IfSome ticket (λ _. HasMade old new Claim))
      → IfOk answer (λ ticket. IfNone ticket (new ≡ old))
      → IfOk answer (λ ticket. IfSome ticket (λ _. is_claim_refused_now old ≡ false))
      → (answer ≡ Err claim.JournalFull → IsSome (first_queued old.state.jobs) × (is_claim_refused_now old ≡ true))
      → OnErr answer (new ≡ old) → Outcome told own old new (ClaimTold answer)
  claim-made (Ok None) claimed made none room full refused = record {
    event = None;
    made = nothing-same none;
    closing = tt;
    call = record { claimed = claimed; made = refl; room = room; full = full; refused = tt };
  }
  claim-made (Ok (Some ticket)) claimed made none room full refused = record {
    event = Some Claim;
    made = made;
    closing = λ p e. absurd (let wrong : None ≡ Some p = e in cc);
    call = record { claimed = claimed; made = refl; room = room; full = full; refused = tt };
  }
  claim-made (Err cause) claimed made none room full refused = record {
    event = None;
    made = nothing-same refused;
    closing = tt;
    call = record { claimed = tt; made = tt; room = tt; full = full; refused = refl };
  }

  pub fan-made : (answer : Result (Option Fanned) FanRefusal)
      → IfOk answer (λ fanned. option_map fanned_outcome fanned ≡ next_fan_outcome fan_pages old.state)
      → IfOk answer (λ fanned. IfSome fanned (λ _. HasMade old new Fan))
      → IfOk answer (λ fanned. IfNone fanned (HasMadeNothing told old new))
      → IfOk answer (λ fanned. IfSome fanned (λ _. is_fan_refused_now old ≡ false))
      → (answer ≡ Err fan.JournalFull → IsSome (first_fan old.state.jobs) × (is_fan_refused_now old ≡ true))
      → OnErr answer (HasMadeNothing told old new) → Outcome told own old new (FanTold answer)
  fan-made (Ok None) fanned made none room full refused = record {
    event = None;
    made = none;
    closing = tt;
    call = record { fanned = fanned; made = refl; room = room; full = full; refused = tt };
  }
  fan-made (Ok (Some served)) fanned made none room full refused = record {
    event = Some Fan;
    made = made;
    closing = λ p e. absurd (let wrong : None ≡ Some p = e in cc);
    call = record { fanned = fanned; made = refl; room = room; full = full; refused = tt };
  }
  fan-made (Err cause) fanned made none room full refused = record {
    event = None;
    made = refused;
    closing = tt;
    call = record { fanned = tt; made = tt; room = tt; full = full; refused = refl };
  }

  pub finish-made : (ticket : ℕ) (reads : List Read) (answer : Finished)
      → HasMade old new (event_of_answer ticket answer)
      → (answer ≢ finished.Memory → told_stale answer ≡ first_stale (world_of old.state) reads)
      → IsOpen closes old.journal own (ticket - 1) → Outcome told own old new (FinishTold ticket reads answer)
  finish-made ticket reads answer made stale opened = record {
    event = Some (event_of_answer ticket answer);
    made = made;
    closing = finish-closes old.journal own ticket answer opened;
    call = record { made = refl; stale = stale };
  }

  pub back-made : (ticket : ℕ) → HasMade old new (Back ticket) → IsOpen closes old.journal own (ticket - 1) → Outcome told own old new (BackTold ticket)
  back-made ticket made opened = record {
    event = Some (Back ticket);
    made = made;
    closing = λ p e. ticket-closes old.journal own ticket p opened e;
    call = refl;
  }

pub fetch-made : {K E : Type 0} (told : K → Option StoreTables) (own : List ℕ) (old : WikiSeen K) (title : PageTitle) (kind : Kind) (answer : Result Answer E)
    → IfOk answer (λ answer. answer_of answer ≡ answer_in (world_of old.state) title kind) → Outcome told own old old (FetchTold title kind answer)
fetch-made told own old title kind answer answered = record {
  event = None;
  made = nothing-same told own old old refl;
  closing = tt;
  call = record { answered = answered; made = refl };
}

-- ---- faults

at-end : (before now : ℕ) → Rose before now → now ≡ before → 2 ^ 64 - 1 ≤ before
at-end before now rose same = let up : min (before + 1) (2 ^ 64 - 1) ≤ now = rose in grind arith

-- the count of faults rose, which stays where the keeper is whole
rose-at-end : (whole : Bool) (before now : ℕ) (failed : Option ℕ) → (whole ≡ true → now ≡ before) → Rose before now → failed_where whole before ≡ failed → IfSome failed (λ n. 2 ^ 64 - 1 ≤ n)
rose-at-end true before now failed kept rose told = subst (λ (o : Option ℕ). IfSome o (λ n. 2 ^ 64 - 1 ≤ n)) told (at-end before now rose (kept refl))
rose-at-end false before now failed kept rose told = subst (λ (o : Option ℕ). IfSome o (λ n. 2 ^ 64 - 1 ≤ n)) told tt

-- a fault where the count of faults rose
pub may-fail : {K : Type 0} (is_whole : K → Bool) (faults : K → ℕ) (start : Start) (old new : WikiSeen K) → old.start ≡ start → TellsOf is_whole faults old.start old.keeper
    → (old.start.whole ≡ true → faults new.keeper ≡ faults old.keeper) → Rose (faults old.keeper) (faults new.keeper) → MayFail start
may-fail is_whole faults start old new same tells kept rose =
    subst MayFail same (rose-at-end (is_whole old.keeper) (faults old.keeper) (faults new.keeper) old.start.failed (λ is. kept (sym tells.whole ∙ is)) rose tells.failed)
