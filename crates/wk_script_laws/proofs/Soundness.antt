-- Lines keep a wiki sound.
use Rattle.std.proofs.Common.{◌≡◌, ℕ, Bool, true, false, cond, List, [], ◌∷◌, fold, map, unwrap_or, codes, Option, Some, None, refl}
use Rattle.wk_page_rules.specs.Verdict.{MostHeld}
use Rattle.wk_view_rules.specs.Plans.{Outcome, done, need}
use Rattle.wk_view_rules.specs.Views.{Expanded}
use Rattle.wk_wiki_rules.specs.Steps.{by_number, fan_pages}
use Rattle.wk_wiki_rules.specs.States.{State, world_of}
use Rattle.wk_wiki_rules.specs.Events.{Event, Save, Claim, Done, Back, Fan, step}
use Rattle.wk_wiki_rules.specs.Soundness.{IsSound}
use Rattle.wk_wiki_laws.specs.WellFormed.{IsWellFormed}
use Rattle.wk_wiki_laws.proofs.Sound.{IsSound-claimed, IsSound-given_back, IsSound-reopened}
use Rattle.wk_wiki_laws.proofs.Refreshed.{IsSound-done}
use Rattle.wk_wiki_laws.proofs.Fanned.{IsSound-fanned}
use Rattle.wk_wiki_laws.proofs.Saved.{IsSound-saved}
use Rattle.wk_wiki_laws.proofs.Formed.{IsWellFormed-step, IsWellFormed-reopened}
use Rattle.wk_wiki_rules.specs.Claims.{ClaimOutcome, claim_outcome}
use Rattle.wk_wiki_rules.specs.Fans.{FanOutcome, next_fan_outcome}
use Rattle.wk_wiki_rules.specs.Room.{is_claim_refused, is_fan_refused}
use Rattle.wk_wiki_rules.specs.Staleness.{StaleRead, first_stale}
use Rattle.wk_answer_rules.specs.Values.{ApiReply}
use Rattle.wk_script_rules.specs.ScriptLines.{ScriptLine, empty_line, long_line, api_line, claim_line, read_line, finish_line, giveback_line, fan_line, restart_line, unknown_line, script_line}
use Rattle.wk_script_rules.specs.WikiScripts.{TicketDraft, WikiScript, point_of, after_event, draft_of, drafted, given_back_by, all_given_back}
use Rattle.wk_script_rules.specs.Replies.{claim_entries, nothing_entries, fan_entries, noread, needsread, notticket}
use Rattle.wk_script_rules.specs.Steps.{LineStep, replied, refused_line, journal_full_line, after_answer, api_answer, claimed, read_step, read_by_need, finish_by, finish_step, with_ticket_out, giveback_step, line_step}
use Rattle.wk_script_rules.specs.Runs.{LineRun, as_answered, api_out_of_memory, api_out_of_memory_after, save_failed, claim_out_of_memory, read_out_of_memory, finish_out_of_memory, finish_failed, fan_out_of_memory, fan_failed, WikiScriptRun, over, timed, unread, untimed}

-- the state is well formed and sound
abbrev pub Fine : State → Type 0
Fine state = IsWellFormed state × IsSound state

-- ---- events

stepped-sound : (state next : State) (journal : ℕ) (event : Event) → step state journal event ≡ Some next → Fine state → IsSound next
stepped-sound state next journal (Save title text moment) is fine = IsSound-saved fan_pages state next journal title text moment fine.0 is fine.1
stepped-sound state next journal Claim is fine = IsSound-claimed fan_pages state next journal is fine.1
stepped-sound state next journal (Done ticket) is fine = IsSound-done fan_pages state next journal ticket fine.0 is fine.1
stepped-sound state next journal (Back ticket) is fine = IsSound-given_back fan_pages state next journal ticket is fine.1
stepped-sound state next journal Fan is fine = IsSound-fanned fan_pages state next journal is fine.1

event-fine : (state : State) (journal : ℕ) (event : Event) → Fine state → Fine (unwrap_or (step state journal event) state)
event-fine state journal event fine = by (step state journal event) refl
  where
    by : (o : Option State) → step state journal event ≡ o → Fine (unwrap_or o state)
    by None is = fine
    by (Some next) is = (IsWellFormed-step fan_pages state next journal event is fine.0, stepped-sound state next journal event is fine)

behind-fine : (s : WikiScript) (event : Event) → Fine s.state → Fine (after_event s event).state
behind-fine s event fine = event-fine s.state (point_of s) event fine

all-back : (s : WikiScript) (tickets : List ℕ) → Fine s.state → Fine (fold given_back_by s tickets).state
all-back s [] fine = fine
all-back s (ticket ∷ tickets) fine = all-back (given_back_by s ticket) tickets (behind-fine s (Back ticket) fine)

pub back-fine : (s : WikiScript) → Fine s.state → Fine (all_given_back s).state
back-fine s fine = all-back s (map (λ (draft : TicketDraft). draft.ticket) (by_number (λ (draft : TicketDraft). draft.ticket) s.drafts)) fine

-- ---- lines

answer-fine : (s : WikiScript) (event : Option Event) → Fine s.state → Fine (after_answer s event).state
answer-fine s None fine = fine
answer-fine s (Some event) fine = behind-fine s event fine

-- of two lines
either-fine : (b : Bool) (one other : LineStep) → Fine one.after.state → Fine other.after.state → Fine (cond b one other).after.state
either-fine true one other first second = first
either-fine false one other first second = second

module _ (most : MostHeld) (s : WikiScript) (fine : Fine s.state) where
  claim-fine : (o : Option ClaimOutcome) → Fine (elim o as (λ p. LineStep) [
    | None ↦ replied s (nothing_entries (codes "claim"))
    | Some claim ↦ cond (is_claim_refused most s.state (point_of s)) (journal_full_line s) (replied (claimed s claim) (claim_entries claim))
  ]).after.state
  claim-fine None = fine
  claim-fine (Some claim) =
      either-fine (is_claim_refused most s.state (point_of s)) (journal_full_line s) (replied (claimed s claim) (claim_entries claim)) fine (behind-fine s Claim fine)

  fan-fine : (o : Option FanOutcome) → Fine (elim o as (λ p. LineStep) [
    | None ↦ replied s (nothing_entries (codes "fan"))
    | Some fan ↦ cond (is_fan_refused most s.state (point_of s)) (journal_full_line s) (replied (after_event s Fan) (fan_entries fan))
  ]).after.state
  fan-fine None = fine
  fan-fine (Some fan) =
      either-fine (is_fan_refused most s.state (point_of s)) (journal_full_line s) (replied (after_event s Fan) (fan_entries fan)) fine (behind-fine s Fan fine)

  read-fine : (draft : TicketDraft) → Fine (read_step s draft).after.state
  read-fine draft = by (drafted draft)
    where
      by : (o : Outcome Expanded) → Fine (elim o as (λ p. LineStep) [
        | done expanded reads ↦ refused_line s noread
        | need title kind reads ↦ read_by_need s draft title kind
      ]).after.state
      by (done expanded reads) = fine
      by (need title kind reads) = fine

  stale-fine : (ticket : ℕ) (o : Option StaleRead) → Fine (finish_by s ticket o).after.state
  stale-fine ticket None = behind-fine s (Done ticket) fine
  stale-fine ticket (Some stale) = behind-fine s (Back ticket) fine

  finish-fine : (draft : TicketDraft) → Fine (finish_step s draft).after.state
  finish-fine draft = by (drafted draft)
    where
      by : (o : Outcome Expanded) → Fine (elim o as (λ p. LineStep) [
        | need title kind reads ↦ refused_line s (needsread title kind)
        | done expanded reads ↦ finish_by s draft.ticket (first_stale (world_of s.state) reads)
      ]).after.state
      by (done expanded reads) = stale-fine draft.ticket (first_stale (world_of s.state) reads)
      by (need title kind reads) = fine

  ticket-fine : (ticket : ℕ) (step_with : WikiScript → TicketDraft → LineStep) → ((draft : TicketDraft) → Fine (step_with s draft).after.state) → Fine (with_ticket_out s ticket step_with).after.state
  ticket-fine ticket step_with each = by (draft_of s ticket)
    where
      by : (o : Option TicketDraft) → Fine (elim o as (λ p. LineStep) [ None ↦ refused_line s notticket | Some draft ↦ step_with s draft ]).after.state
      by None = fine
      by (Some draft) = each draft

  told-fine : (moment : ℕ) (line : ScriptLine) → Fine (line_step most s moment line).after.state
  unfolding line_step
  told-fine moment empty_line = fine
  told-fine moment long_line = fine
  told-fine moment (api_line request) = answer-fine s (api_answer most s moment request).event fine
  told-fine moment claim_line = claim-fine (claim_outcome s.state (point_of s))
  told-fine moment (read_line ticket) = ticket-fine ticket read_step read-fine
  told-fine moment (finish_line ticket) = ticket-fine ticket finish_step finish-fine
  told-fine moment (giveback_line ticket) = ticket-fine ticket giveback_step (λ draft. behind-fine s (Back draft.ticket) fine)
  told-fine moment fan_line = fan-fine (next_fan_outcome fan_pages s.state)
  told-fine moment restart_line =
      let given = back-fine s fine in
      (IsWellFormed-reopened (all_given_back s).state given.0, IsSound-reopened (all_given_back s).state given.1)
  told-fine moment unknown_line = fine

line-fine : (most : MostHeld) (s : WikiScript) (moment : ℕ) (line : ScriptLine) (reply : Option ApiReply) (t : WikiScript)
    → LineRun most s moment line reply t → Fine s.state → Fine t.state
line-fine most s moment line reply t as_answered fine = told-fine most s fine moment line
line-fine most s moment line reply t api_out_of_memory fine = fine
line-fine most s moment line reply t (api_out_of_memory_after {event = event} made) fine = behind-fine s event fine
line-fine most s moment line reply t (save_failed made) fine = fine
line-fine most s moment line reply t claim_out_of_memory fine = fine
line-fine most s moment line reply t (read_out_of_memory out) fine = fine
line-fine most s moment line reply t (finish_out_of_memory {ticket = ticket} out) fine = behind-fine s (Back ticket) fine
line-fine most s moment line reply t (finish_failed {ticket = ticket} out drafted current) fine = behind-fine s (Back ticket) fine
line-fine most s moment line reply t fan_out_of_memory fine = fine
line-fine most s moment line reply t (fan_failed stands room) fine = fine

-- ---- runs

pub run-fine : (most : MostHeld) (s t : WikiScript) (lines : List (Option (List ℕ))) (moments : List ℕ) (replies : List ApiReply)
    → WikiScriptRun most s lines moments replies t → Fine s.state → Fine t.state
run-fine most s t lines moments replies over fine = fine
run-fine most s t lines moments replies (timed {t = u} {line = line} {lines = more} {moment = moment} {moments = later} {reply = reply} {replies = rest} takes one run) fine =
    run-fine most u t more later rest run (line-fine most s moment (script_line line) reply u one fine)
run-fine most s t lines moments replies (unread {lines = more} {replies = rest} is run) fine = run-fine most s t more moments rest run fine
run-fine most s t lines moments replies (untimed {t = u} {line = line} {lines = more} {moments = later} {reply = reply} {replies = rest} takes one run) fine =
    run-fine most u t more later rest run (line-fine most s 0 (script_line line) reply u one fine)
