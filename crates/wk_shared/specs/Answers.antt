-- What the answers of calls tell of the state in which they were made, behind a journal of this length, and of the event
-- that they made: what the wiki's call of the same name tells of them (own).
use Rattle.std.specs.Prelude.{◌≡◌, ◌≢◌, ℕ, true, false, List, Option, Some, None, IsSome, IfSome, option_map, Result, Err, IfOk, IfErr, OnOk, OnErr}
use Rattle.wk_text_rules.specs.Titles.{PageTitle}
use Rattle.wk_page_rules.specs.Verdict.{EditAsked, refuse}
use Rattle.wk_view_rules.specs.Worlds.{Read, answer_in}
use Rattle.wk_view_rules.specs.declared.Kind.{Kind}
use Rattle.wk_wiki_rules.specs.Jobs.{first_fan, first_queued}
use Rattle.wk_wiki_rules.specs.Steps.{fan_pages}
use Rattle.wk_wiki_rules.specs.States.{State, world_of}
use Rattle.wk_wiki_rules.specs.Events.{Event, Claim, Back, Fan}
use Rattle.wk_wiki_rules.specs.Verdicts.{event_of, verdict_in}
use Rattle.wk_wiki_rules.specs.Claims.{ClaimOutcome, claim_outcome}
use Rattle.wk_wiki_rules.specs.Fans.{next_fan_outcome}
use Rattle.wk_wiki_rules.specs.Room.{is_claim_refused, is_fan_refused}
use Rattle.wk_wiki_rules.specs.SaveOutcomes.{save_outcome}
use Rattle.wk_wiki_rules.specs.Staleness.{first_stale}
use Rattle.wk_wiki_rules.specs.Starts.{Start}
use Rattle.wk_revs.specs.Verdict.{refusal_of}
use Rattle.wk_revs.specs.declared.verdict.SaveRefusal.{SaveRefusal}
use Rattle.wk_expand.specs.Answers.{answer_of}
use Rattle.wk_expand.specs.declared.answer.Answer.{Answer}
use Rattle.wk_core.specs.Answers.{event_of_answer, fanned_outcome, saved_outcome, told_stale}
use Rattle.wk_core.specs.declared.outcomes.ClaimRefusal.{ClaimRefusal}
use Rattle.wk_core.specs.declared.outcomes.ClaimRefusal.TheVariants as claim
use Rattle.wk_core.specs.declared.outcomes.FanRefusal.{FanRefusal}
use Rattle.wk_core.specs.declared.outcomes.FanRefusal.TheVariants as fan
use Rattle.wk_core.specs.declared.outcomes.Fanned.{Fanned}
use Rattle.wk_core.specs.declared.outcomes.Finished.{Finished}
use Rattle.wk_core.specs.declared.outcomes.Finished.TheVariants as finished
use Rattle.wk_core.specs.declared.outcomes.Saved.{Saved}

-- A save, or a deletion: at Ok what is told of the verdict, and the verdict's event; a refusal of the rules is the verdict's,
-- and makes none.
pub record SaveTold (edit : EditAsked) (now : ℕ) (answer : Result Saved SaveRefusal) (start : Start) (state : State) (point : ℕ) (event : Option Event) : Type 0 where
  pub saved : IfOk answer (λ saved. Some (saved_outcome saved) ≡ save_outcome state.history (verdict_in start.limits state point edit))
  pub made : OnOk answer (event ≡ event_of (verdict_in start.limits state point edit) now)
  pub refusal : IfErr answer (λ refusal. IfSome (refusal_of refusal) (λ cause. verdict_in start.limits state point edit ≡ refuse cause))
  pub refused : OnErr answer (event ≡ None)

-- A claim: the ticket of the first queued job, with the event; none exactly where no job is queued; full only where there is
-- no room for one.
pub record ClaimTold (answer : Result (Option ClaimOutcome) ClaimRefusal) (start : Start) (state : State) (point : ℕ) (event : Option Event) : Type 0 where
  pub claimed : IfOk answer (λ ticket. ticket ≡ claim_outcome state point)
  pub made : IfOk answer (λ ticket. event ≡ option_map (λ _. Claim) ticket)
  pub room : IfOk answer (λ ticket. IfSome ticket (λ _. is_claim_refused start.limits state point ≡ false))
  pub full : answer ≡ Err claim.JournalFull → IsSome (first_queued state.jobs) × (is_claim_refused start.limits state point ≡ true)
  pub refused : OnErr answer (event ≡ None)

-- A refresh that comes in: the event of the answer; the first read that isn't current, where memory was there to tell it.
pub record FinishTold (ticket : ℕ) (reads : List Read) (answer : Finished) (start : Start) (state : State) (point : ℕ) (event : Option Event) : Type 0 where
  pub made : event ≡ Some (event_of_answer ticket answer)
  pub stale : answer ≢ finished.Memory → told_stale answer ≡ first_stale (world_of state) reads

-- a refresh that is given back is the event of that
abbrev pub BackTold : ℕ → Start → State → ℕ → Option Event → Type 0
BackTold ticket start state point event = event ≡ Some (Back ticket)

-- A fan: what the rules tell of the next one, with the event; none exactly where no fan job stands; full only where there is
-- no room for one.
pub record FanTold (answer : Result (Option Fanned) FanRefusal) (start : Start) (state : State) (point : ℕ) (event : Option Event) : Type 0 where
  pub fanned : IfOk answer (λ fanned. option_map fanned_outcome fanned ≡ next_fan_outcome fan_pages state)
  pub made : IfOk answer (λ fanned. event ≡ option_map (λ _. Fan) fanned)
  pub room : IfOk answer (λ fanned. IfSome fanned (λ _. is_fan_refused start.limits state point ≡ false))
  pub full : answer ≡ Err fan.JournalFull → IsSome (first_fan state.jobs) × (is_fan_refused start.limits state point ≡ true)
  pub refused : OnErr answer (event ≡ None)

-- a fetch: what the state's world answers, and no event
pub record FetchTold {E : Type 0} (title : PageTitle) (kind : Kind) (answer : Result Answer E) (start : Start) (state : State) (point : ℕ) (event : Option Event) : Type 0 where
  pub answered : IfOk answer (λ answer. answer_of answer ≡ answer_in (world_of state) title kind)
  pub made : event ≡ None
