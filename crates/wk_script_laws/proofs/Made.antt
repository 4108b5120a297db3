-- What the lines of a script make is what calls make.
use Rattle.std.proofs.Common.{◌≡◌, ℕ, ◌+◌, ◌-◌, ◌<◌, Bool, true, false, not, cond, eqb, List, [], ◌∷◌, ◌++◌, map, fold, unwrap_or, codes, Option, Some, None, refl, sym, ap, ◌∙◌, subst, arith}
use Rattle.std.specs.List.{AllByRecursion}
use Rattle.std.specs.Prelude.{slice_get, option_map, is_some, IsSome, ◌≢◌}
use Rattle.std.proofs.lemmas.Bool.{eqb-true}
use Rattle.std.proofs.lemmas.List.{length-append}
use Rattle.std.proofs.lemmas.Option.{slice_get_within}
use Rattle.wk_text_rules.specs.Titles.{PageTitle}
use Rattle.wk_page_rules.specs.Verdict.{MostHeld}
use Rattle.wk_view_rules.specs.Plans.{Outcome, done, need}
use Rattle.wk_view_rules.specs.Views.{Expanded}
use Rattle.wk_view_rules.specs.declared.Kind.{Kind}
use Rattle.wk_wiki_rules.specs.Jobs.{FanEntry, first_fan, first_queued, page_held_by, claimed_by, given_back}
use Rattle.wk_wiki_rules.specs.Steps.{after_serving, fan_pages}
use Rattle.wk_table_laws.specs.InOrder.{Rises}
use Rattle.wk_table_laws.proofs.Order.{by_number-rising}
use Rattle.wk_wiki_rules.specs.States.{State, title_at, world_of}
use Rattle.wk_wiki_rules.specs.Events.{Event, Save, Claim, Done, Back, Fan, step, with_refreshed, with_jobs}
use Rattle.wk_wiki_rules.specs.Lives.{replay_by, reopened}
use Rattle.wk_wiki_laws.specs.Kept.{IsKept}
use Rattle.wk_wiki_laws.specs.Reached.{IsWithinFull}
use Rattle.wk_wiki_laws.proofs.KeptStates.{IsKept-reopened}
use Rattle.wk_wiki_rules.specs.Calls.{CallsMake, IsMade, no_call, one_more, by_claim, by_finish, by_give_back, by_fan}
use Rattle.wk_wiki_rules.specs.Claims.{ClaimOutcome}
use Rattle.wk_wiki_rules.specs.Fans.{fan_outcome}
use Rattle.wk_wiki_rules.specs.Room.{is_claim_refused, is_fan_refused, tickets_out}
use Rattle.wk_wiki_rules.specs.Staleness.{StaleRead, first_stale}
use Rattle.wk_wiki_laws.specs.Tickets.{IsOpenClaim}
use Rattle.wk_wiki_laws.proofs.KeptCalls.{kept-calls}
use Rattle.wk_wiki_laws.proofs.Parts.{replay-calls}
use Rattle.wk_wiki_laws.proofs.Room.{out-reopened}
use Rattle.wk_wiki_laws.proofs.TicketSteps.{open-is-out, out-is-open, ticket-stays}
use Rattle.wk_answer_rules.specs.Values.{ApiReply}
use Rattle.wk_answer_laws.proofs.Possible.{event-possible, made-by-call, possible-step, IsPossibleSave}
use Rattle.wk_script_rules.specs.ScriptLines.{ScriptLine, empty_line, long_line, api_line, claim_line, read_line, finish_line, giveback_line, fan_line, restart_line, unknown_line, script_line}
use Rattle.wk_script_rules.specs.WikiScripts.{TicketDraft, WikiScript, script_from, point_of, after_event, draft_of, drafted, without_draft, given_back_by, all_given_back, restarted}
use Rattle.wk_script_rules.specs.Replies.{claim_entries, nothing_entries, fan_entries, noread, needsread, notticket}
use Rattle.wk_script_rules.specs.Steps.{LineStep, replied, refused_line, journal_full_line, after_answer, api_answer, claimed, read_step, read_by_need, present_read, finished, finish_by, finish_step, with_ticket_out, giveback_step, line_step}
use Rattle.wk_script_rules.specs.Runs.{LineRun, as_answered, api_out_of_memory, api_out_of_memory_after, save_failed, claim_out_of_memory, read_out_of_memory, finish_out_of_memory, finish_failed, fan_out_of_memory, fan_failed, WikiScriptRun, over, timed, unread, untimed}
use Rattle.wk_script_laws.specs.Lives.{IsLife}
use Rattle.wk_script_laws.proofs.Drafts.{some-of, is-some, ticket, each-push, each-kept, each-weaker, found, each-read, tickets-read, rises-push, rises-kept, last-at, other-ticket}

-- the ticket is out
abbrev Out : WikiScript → ℕ → Type 0
Out s t = IsSome (page_held_by s.state.jobs t)

pub begun-life : (most : MostHeld) (state : State) → IsKept state → tickets_out state ≡ 0 → IsLife most (script_from state)
begun-life most state kept free = record { kept = kept; free = free; made = no_call; out = tt; rises = tt }

module _ (most : MostHeld) (full : IsWithinFull most) where
  -- ---- one event

  module _ (s : WikiScript) (life : IsLife most s) (event : Event) (is_made : IsMade most s.state (point_of s) event) (possible : IsSome (step s.state (point_of s) event)) where
    abbrev next : (x : State) × (step s.state (point_of s) event ≡ Some x)
    next = some-of (step s.state (point_of s) event) possible

    after-is : (after_event s event).state ≡ next.0
    after-is = ap (λ (o : Option State). unwrap_or o s.state) next.1

    before : replay_by fan_pages s.start s.journal ≡ Some s.state
    before = replay-calls fan_pages most s.start s.state s.journal life.made

    pub made-behind : CallsMake fan_pages most s.start (s.journal ++ event ∷ []) (after_event s event).state
    made-behind =
        subst (λ (state : State). CallsMake fan_pages most s.start (s.journal ++ event ∷ []) state) (sym after-is)
        (one_more life.made is_made next.1)

    pub replay-behind : replay_by fan_pages s.start (s.journal ++ event ∷ []) ≡ Some (after_event s event).state
    replay-behind = replay-calls fan_pages most s.start (after_event s event).state (s.journal ++ event ∷ []) made-behind

    -- a ticket that the event doesn't bring in stays out
    pub stays : (t : ℕ) → event ≢ Done t → event ≢ Back t → Out s t → Out (after_event s event) t
    stays t not_done not_back out =
        let page = some-of (page_held_by s.state.jobs t) out in
        is-some (page_held_by (after_event s event).state.jobs t) page.0
        (ticket-stays fan_pages s.start s.state (after_event s event).state s.journal event t page.0 life.kept.one_page life.free before replay-behind page.1 not_done not_back)

    -- an event that brings no ticket in
    pub plain-life : ((t : ℕ) → (event ≢ Done t) × (event ≢ Back t)) → IsLife most (after_event s event)
    plain-life plain = record {
      kept = life.kept;
      free = life.free;
      made = made-behind;
      out = each-weaker (λ d. Out s (ticket d)) (λ d. Out (after_event s event) (ticket d)) s.drafts (λ d out. stays (ticket d) (plain (ticket d)).0 (plain (ticket d)).1 out) life.out;
      rises = life.rises;
    }

    -- one that brings this ticket in, whose draft goes
    pub closing-life : (t : ℕ) → ((other : ℕ) → (other ≡ t → ⊥) → (event ≢ Done other) × (event ≢ Back other)) → IsLife most (without_draft (after_event s event) t)
    closing-life t closes_it = record {
      kept = life.kept;
      free = life.free;
      made = made-behind;
      out = each-kept (λ d. Out s (ticket d)) (λ d. Out (after_event s event) (ticket d)) (λ d. not (eqb (ticket d) t)) s.drafts
          (λ d out other. let apart = closes_it (ticket d) (other-ticket (ticket d) t other) in stays (ticket d) apart.0 apart.1 out) life.out;
      rises = rises-kept (λ d. not (eqb (ticket d) t)) s.drafts life.rises;
    }

  -- ---- events of one kind each

  save-life : (s : WikiScript) (event : Event) → IsLife most s → IsPossibleSave most s.state (point_of s) event → IsLife most (after_event s event)
  save-life s event life save =
      plain-life s life event (made-by-call most s.state (point_of s) event save) (possible-step most s.state (point_of s) event save)
      (λ t. (λ e. let is : Save save.title save.text save.moment ≡ Done t = sym save.is ∙ e in cc, λ e. let is : Save save.title save.text save.moment ≡ Back t = sym save.is ∙ e in cc))

  fan-life : (s : WikiScript) (fan : FanEntry) → IsLife most s → first_fan s.state.jobs ≡ Some fan → is_fan_refused most s.state (point_of s) ≡ false → IsLife most (after_event s Fan)
  fan-life s fan life stands room =
      plain-life s life Fan (by_fan room)
      (ap (λ (o : Option FanEntry). is_some (option_map (λ jobs. with_jobs s.state jobs) (option_map (after_serving s.state.stored fan_pages s.state.jobs) o))) stands)
      (λ t. (λ e. cc, λ e. cc))

  back-life : (s : WikiScript) (t : ℕ) → IsLife most s → Out s t → IsLife most (given_back_by s t)
  back-life s t life out =
      let page = some-of (page_held_by s.state.jobs t) out in
      closing-life s life (Back t) by_give_back
      (ap (λ (o : Option ℕ). is_some (option_map (λ p. with_jobs s.state (given_back s.state.jobs p)) o)) page.1)
      t (λ other apart. (λ e. cc, λ e. let same : Back t ≡ Back other = e in apart (sym cc)))

  done-life : (s : WikiScript) (t : ℕ) → IsLife most s → Out s t → IsLife most (finished s t)
  done-life s t life out =
      let page = some-of (page_held_by s.state.jobs t) out in
      closing-life s life (Done t) (by_finish page.0 page.1)
      (ap (λ (o : Option ℕ). is_some (option_map (λ p. with_refreshed s.state p) o)) page.1)
      t (λ other apart. (λ e. let same : Done t ≡ Done other = e in apart (sym cc), λ e. cc))

  -- ---- a claim

  -- what a claim of this page tells
  abbrev claim_of : WikiScript → ℕ → ClaimOutcome
  claim_of s page = record { ticket = point_of s + 1; title = title_at s.state.history page }

  module _ (s : WikiScript) (page : ℕ) (life : IsLife most s) (queued : first_queued s.state.jobs ≡ Some page) (room : is_claim_refused most s.state (point_of s) ≡ false) where
    claim-possible : IsSome (step s.state (point_of s) Claim)
    claim-possible = ap (λ (o : Option ℕ). is_some (option_map (λ p. with_jobs s.state (claimed_by s.state.jobs (point_of s + 1))) o)) queued

    claim-open : IsOpenClaim (s.journal ++ Claim ∷ []) (point_of s + 1)
    claim-open = record {
      positive = omega arith;
      claim = subst (λ (n : ℕ). slice_get (s.journal ++ Claim ∷ []) n ≡ Some Claim) (omega arith) (last-at s.journal Claim);
      unclosed = λ place event behind got.
          let within = slice_get_within (s.journal ++ Claim ∷ []) place event got in
          let len = length-append s.journal (Claim ∷ []) in
          absurd (omega (arith, within, len, behind));
    }

    claim-out : Out (after_event s Claim) (point_of s + 1)
    claim-out =
        open-is-out fan_pages s.start (after_event s Claim).state (s.journal ++ Claim ∷ []) (point_of s + 1) life.kept.one_page life.free
        (replay-behind s life Claim (by_claim room) claim-possible) claim-open

    below-claim : (t : ℕ) → Out s t → t < point_of s + 1
    below-claim t out =
        let held = some-of (page_held_by s.state.jobs t) out in
        let opened = out-is-open fan_pages s.start s.state s.journal t held.0 life.kept.one_page life.free (replay-calls fan_pages most s.start s.state s.journal life.made) held.1 in
        let within = slice_get_within s.journal (t - 1) Claim opened.claim in
        let positive = opened.positive in
        omega (arith, within, positive)

    claim-life : IsLife most (claimed s (claim_of s page))
    claim-life = record {
      kept = life.kept;
      free = life.free;
      made = made-behind s life Claim (by_claim room) claim-possible;
      out = each-push (λ d. Out (after_event s Claim) (ticket d)) s.drafts (record { ticket = point_of s + 1; title = title_at s.state.history page; seen = [] })
          (each-weaker (λ d. Out s (ticket d)) (λ d. Out (after_event s Claim) (ticket d)) s.drafts
          (λ d out. stays s life Claim (by_claim room) claim-possible (ticket d) (λ e. cc) (λ e. cc) out) life.out)
          claim-out;
      rises = rises-push s.drafts (record { ticket = point_of s + 1; title = title_at s.state.history page; seen = [] }) life.rises
          (each-weaker (λ d. Out s (ticket d)) (λ d. ticket d < point_of s + 1) s.drafts (λ d out. below-claim (ticket d) out) life.out);
    }

  -- ---- a restart

  back-stays : (s : WikiScript) (life : IsLife most s) (t : ℕ) (out : Out s t) (drafts : List TicketDraft)
      → AllByRecursion (λ m. t < m) (map ticket drafts) → AllByRecursion (λ d. Out s (ticket d)) drafts → AllByRecursion (λ d. Out (given_back_by s t) (ticket d)) drafts
  back-stays s life t out [] above all = tt
  back-stays s life t out (d ∷ drafts) above all =
      let page = some-of (page_held_by s.state.jobs t) out in
      let possible : IsSome (step s.state (point_of s) (Back t)) = ap (λ (o : Option ℕ). is_some (option_map (λ p. with_jobs s.state (given_back s.state.jobs p)) o)) page.1 in
      let far = above.0 in (
        stays s life (Back t) by_give_back possible (ticket d) (λ e. cc)
            (λ e. let same : Back t ≡ Back (ticket d) = e in let equal : t ≡ ticket d = cc in omega (arith, equal, far)) all.0,
        back-stays s life t out drafts above.1 all.1,
      )

  fold-life : (s : WikiScript) (drafts : List TicketDraft) → IsLife most s → AllByRecursion (λ d. Out s (ticket d)) drafts → Rises (map ticket drafts) → IsLife most (fold given_back_by s (map ticket drafts))
  fold-life s [] life all rises = life
  fold-life s (d ∷ drafts) life all rises =
      fold-life (given_back_by s (ticket d)) drafts (back-life s (ticket d) life all.0) (back-stays s life (ticket d) all.0 drafts rises.0 all.1) rises.1

  pub end-life : (s : WikiScript) → IsLife most s → IsLife most (all_given_back s)
  end-life s life =
      subst (λ (drafts : List TicketDraft). IsLife most (fold given_back_by s (map ticket drafts))) (sym (by_number-rising ticket s.drafts life.rises))
      (fold-life s s.drafts life life.out life.rises)

  restart-life : (s : WikiScript) → IsLife most s → IsLife most (restarted s)
  restart-life s life =
      let ended = end-life s life in
      begun-life most (reopened (all_given_back s).state)
      (IsKept-reopened (all_given_back s).state (kept-calls fan_pages most (all_given_back s).start (all_given_back s).state (all_given_back s).journal full ended.made ended.kept))
      (out-reopened (all_given_back s).state)

  -- ---- lines

  answer-life : (s : WikiScript) (event : Option Event) → IsLife most s → ((e : Event) → event ≡ Some e → IsPossibleSave most s.state (point_of s) e) → IsLife most (after_answer s event)
  answer-life s None life possible = life
  answer-life s (Some e) life possible = save-life s e life (possible e refl)

  module _ (s : WikiScript) (life : IsLife most s) where
    out-of : (t : ℕ) (draft : TicketDraft) → draft_of s t ≡ Some draft → Out s (ticket draft)
    out-of t draft is = (found (λ d. Out s (ticket d)) (λ d. eqb (ticket d) t) s.drafts draft life.out is).0

    out-by : (t : ℕ) (draft : TicketDraft) → draft_of s t ≡ Some draft → Out s t
    out-by t draft is =
        let one = found (λ d. Out s (ticket d)) (λ d. eqb (ticket d) t) s.drafts draft life.out is in
        subst (λ (n : ℕ). Out s n) (eqb-true (ticket draft) t one.1) one.0

    claim-line-life : (o : Option ℕ) → first_queued s.state.jobs ≡ o → IsLife most (elim (option_map (claim_of s) o) as (λ p. LineStep) [
      | None ↦ replied s (nothing_entries (codes "claim"))
      | Some claim ↦ cond (is_claim_refused most s.state (point_of s)) (journal_full_line s) (replied (claimed s claim) (claim_entries claim))
    ]).after
    claim-line-life None is = life
    claim-line-life (Some page) is = by (is_claim_refused most s.state (point_of s)) refl
      where
        by : (b : Bool) → is_claim_refused most s.state (point_of s) ≡ b
            → IsLife most (cond b (journal_full_line s) (replied (claimed s (claim_of s page)) (claim_entries (claim_of s page)))).after
        by true full_journal = life
        by false room = claim-life s page life is room

    fan-line-life : (o : Option FanEntry) → first_fan s.state.jobs ≡ o → IsLife most (elim (option_map (fan_outcome fan_pages s.state) o) as (λ p. LineStep) [
      | None ↦ replied s (nothing_entries (codes "fan"))
      | Some fan ↦ cond (is_fan_refused most s.state (point_of s)) (journal_full_line s) (replied (after_event s Fan) (fan_entries fan))
    ]).after
    fan-line-life None is = life
    fan-line-life (Some fan) is = by (is_fan_refused most s.state (point_of s)) refl
      where
        by : (b : Bool) → is_fan_refused most s.state (point_of s) ≡ b
            → IsLife most (cond b (journal_full_line s) (replied (after_event s Fan) (fan_entries (fan_outcome fan_pages s.state fan)))).after
        by true full_journal = life
        by false room = fan-life s fan life is room

    need-life : (draft : TicketDraft) (title : PageTitle) (kind : Kind) → IsLife most (read_by_need s draft title kind).after
    need-life draft title kind = record {
      kept = life.kept;
      free = life.free;
      made = life.made;
      out = each-read (λ t. Out s t) draft.ticket (present_read s.state title kind) s.drafts life.out;
      rises = subst Rises (sym (tickets-read draft.ticket (present_read s.state title kind) s.drafts)) life.rises;
    }

    read-life : (draft : TicketDraft) → IsLife most (read_step s draft).after
    read-life draft = by (drafted draft)
      where
        by : (o : Outcome Expanded) → IsLife most (elim o as (λ p. LineStep) [
          | done expanded reads ↦ refused_line s noread
          | need title kind reads ↦ read_by_need s draft title kind
        ]).after
        by (done expanded reads) = life
        by (need title kind reads) = need-life draft title kind

    stale-life : (t : ℕ) (o : Option StaleRead) → Out s t → IsLife most (finish_by s t o).after
    stale-life t None out = done-life s t life out
    stale-life t (Some stale) out = back-life s t life out

    finish-life : (draft : TicketDraft) → Out s (ticket draft) → IsLife most (finish_step s draft).after
    finish-life draft out = by (drafted draft)
      where
        by : (o : Outcome Expanded) → IsLife most (elim o as (λ p. LineStep) [
          | need title kind reads ↦ refused_line s (needsread title kind)
          | done expanded reads ↦ finish_by s draft.ticket (first_stale (world_of s.state) reads)
        ]).after
        by (done expanded reads) = stale-life draft.ticket (first_stale (world_of s.state) reads) out
        by (need title kind reads) = life

    ticket-life : (t : ℕ) (step_with : WikiScript → TicketDraft → LineStep) → ((draft : TicketDraft) → Out s (ticket draft) → IsLife most (step_with s draft).after) → IsLife most (with_ticket_out s t step_with).after
    ticket-life t step_with each = by (draft_of s t) refl
      where
        by : (o : Option TicketDraft) → draft_of s t ≡ o → IsLife most (elim o as (λ p. LineStep) [ None ↦ refused_line s notticket | Some draft ↦ step_with s draft ]).after
        by None is = life
        by (Some draft) is = each draft (out-of t draft is)

    told-life : (moment : ℕ) (line : ScriptLine) → IsLife most (line_step most s moment line).after
    unfolding line_step
    told-life moment empty_line = life
    told-life moment long_line = life
    told-life moment (api_line request) =
        answer-life s (api_answer most s moment request).event life (event-possible most s.state (point_of s) moment request)
    told-life moment claim_line = claim-line-life (first_queued s.state.jobs) refl
    told-life moment (read_line t) = ticket-life t read_step (λ draft out. read-life draft)
    told-life moment (finish_line t) = ticket-life t finish_step finish-life
    told-life moment (giveback_line t) = ticket-life t giveback_step (λ draft out. back-life s draft.ticket life out)
    told-life moment fan_line = fan-line-life (first_fan s.state.jobs) refl
    told-life moment restart_line = restart-life s life
    told-life moment unknown_line = life

  line-life : (s : WikiScript) (moment : ℕ) (line : ScriptLine) (reply : Option ApiReply) (t : WikiScript)
      → LineRun most s moment line reply t → IsLife most s → IsLife most t
  line-life s moment line reply t as_answered life = told-life s life moment line
  line-life s moment line reply t api_out_of_memory life = life
  line-life s moment line reply t (api_out_of_memory_after {request = request} {event = event} made) life =
      save-life s event life (event-possible most s.state (point_of s) moment request event made)
  line-life s moment line reply t (save_failed made) life = life
  line-life s moment line reply t claim_out_of_memory life = life
  line-life s moment line reply t (read_out_of_memory out) life = life
  line-life s moment line reply t (finish_out_of_memory {ticket = n} {draft = draft} out) life = back-life s n life (out-by s life n draft out)
  line-life s moment line reply t (finish_failed {ticket = n} {draft = draft} out drafted current) life = back-life s n life (out-by s life n draft out)
  line-life s moment line reply t fan_out_of_memory life = life
  line-life s moment line reply t (fan_failed stands room) life = life

  -- ---- runs

  pub run-life : (s t : WikiScript) (lines : List (Option (List ℕ))) (moments : List ℕ) (replies : List ApiReply)
      → WikiScriptRun most s lines moments replies t → IsLife most s → IsLife most t
  run-life s t lines moments replies over life = life
  run-life s t lines moments replies (timed {t = u} {line = line} {lines = more} {moment = moment} {moments = later} {reply = reply} {replies = rest} takes one run) life =
      run-life u t more later rest run (line-life s moment (script_line line) reply u one life)
  run-life s t lines moments replies (unread {lines = more} {replies = rest} is run) life = run-life s t more moments rest run life
  run-life s t lines moments replies (untimed {t = u} {line = line} {lines = more} {moments = later} {reply = reply} {replies = rest} takes one run) life =
      run-life u t more later rest run (line-life s 0 (script_line line) reply u one life)
