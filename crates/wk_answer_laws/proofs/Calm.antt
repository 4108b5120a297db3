-- Where nothing fails, no reply tells of want of memory or of a fault of the store.
use Rattle.std.proofs.Common.{◌≡◌, ℕ, ◌+◌, Bool, true, false, cond, List, length, codes, Option, Some, None, refl, sym, ap, ◌∙◌, subst}
use Rattle.std.specs.Prelude.{pos, not, nat_lt, unwrap_or, bytes_eq, ◌≢◌}
use Rattle.std.specs.Ordering.{int_eq}
use Rattle.serde_json.specs.Data.{Data}
use Rattle.wk_text_rules.specs.Titles.{PageTitle, normal}
use Rattle.wk_page_rules.specs.History.{page_number, page_exists, History}
use Rattle.wk_page_rules.specs.Verdict.{MostHeld, Refusal, invalid_title, content_too_big, article_exists, missing_title, edit_conflict, wiki_full, journal_full, Verdict, refuse, no_change, accept, max_text, real_title}
use Rattle.wk_page_rules.specs.declared.Reach.TheVariants.{Text}
use Rattle.wk_view_rules.specs.Plans.{Outcome, done, need}
use Rattle.wk_view_rules.specs.Views.{Expanded}
use Rattle.wk_wiki_rules.specs.Steps.{fan_pages}
use Rattle.wk_wiki_rules.specs.Users.{users}
use Rattle.wk_wiki_rules.specs.States.{State, world_of}
use Rattle.wk_wiki_rules.specs.Events.{Fan}
use Rattle.wk_wiki_rules.specs.Verdicts.{verdict_in}
use Rattle.wk_wiki_rules.specs.Links.{linking_pages}
use Rattle.wk_wiki_rules.specs.Members.{members_behind}
use Rattle.wk_wiki_rules.specs.Revisions.{changes_below, page_revisions_below}
use Rattle.wk_wiki_rules.specs.Claims.{ClaimOutcome, claim_outcome}
use Rattle.wk_wiki_rules.specs.Fans.{FanOutcome, next_fan_outcome}
use Rattle.wk_wiki_rules.specs.Passes.{drafted_in}
use Rattle.wk_wiki_rules.specs.Room.{is_claim_refused, is_fan_refused}
use Rattle.wk_wiki_rules.specs.SaveOutcomes.{SaveOutcome, save_outcome, deletion}
use Rattle.wk_wiki_rules.specs.Staleness.{StaleRead, first_stale}
use Rattle.wk_request_rules.specs.Requests.{Ask, edit, delete, parse, expand_text, backlinks, embedded, members, changes, revisions, tokens, site_info, Listing, RequestRefusal, bad_value, must_be_posted, bad_token, no_title, no_text, bad_integer, ParsedRequest, valid, invalid}
use Rattle.wk_answer_rules.specs.Values.{ApiReply, Entries, reply_beside}
use Rattle.wk_answer_rules.specs.ApiErrors.{invalidtitle, invalidcategory, contenttoobig, missingtitle, nomemory, storefault, journalfull, api_error, request_error, save_error}
use Rattle.wk_answer_rules.specs.Pages.{ReadAnswer, shows, fails, text_shown, parse_entries, page_shown, parse_answer, expand_entries, expanded_in}
use Rattle.wk_answer_rules.specs.Lists.{listed, backlinks_of, embedding_of, member_entries, members_passed, members_listed, members_of, page_entries, last_listed, change_entries, below, revisions_listed, revision_entries, changes_answer, revisions_of}
use Rattle.wk_answer_rules.specs.Saves.{Answered, edit_entries, delete_entries, outcome_entries, save_answer}
use Rattle.wk_answer_rules.specs.Answers.{read_at, answer_to_ask, answer_to_parsed}
use Rattle.wk_script_rules.specs.ScriptLines.{ScriptLine, empty_line, long_line, api_line, claim_line, read_line, finish_line, giveback_line, fan_line, restart_line, unknown_line}
use Rattle.wk_script_rules.specs.WikiScripts.{TicketDraft, WikiScript, point_of, after_event, draft_of, drafted, with_read, given_back_by, restarted}
use Rattle.wk_script_rules.specs.Replies.{LineError, badline, linetoolong, notticket, noread, needsread, line_error, claim_entries, nothing_entries, read_entries, done_entries, stale_entries, giveback_entries, fan_entries, restart_entries}
use Rattle.wk_script_rules.specs.Steps.{LineStep, replied, refused_line, journal_full_line, after_answer, api_answer, claimed, present_read, finished, read_step, read_by_need, finish_step, finish_by, giveback_step, with_ticket_out, line_step}
use Rattle.wk_script_rules.specs.Runs.{HasNoFailure}
use Rattle.wk_answer_laws.specs.Failures.{error_code, is_failure}
use Rattle.wk_answer_laws.proofs.Points.{request-by}

abbrev pub Calm : ApiReply → Type 0
Calm reply = is_failure reply.value ≡ false

-- ---- requests

abbrev CalmRead : ReadAnswer → Type 0
CalmRead answer = (journal : ℕ) → Calm (read_at journal answer).reply

either-read : (b : Bool) (one other : ReadAnswer) → CalmRead one → CalmRead other → CalmRead (cond b one other)
either-read true one other first second = first
either-read false one other first second = second

for-title-calm : (o : Option PageTitle) (answer : PageTitle → ReadAnswer) → ((title : PageTitle) → CalmRead (answer title))
    → CalmRead (elim o as (λ p. ReadAnswer) [ None ↦ fails invalidtitle | Some title ↦ answer title ])
for-title-calm None answer each journal = refl
for-title-calm (Some title) answer each journal = each title journal

parse-calm : (state : State) (page : List ℕ) → CalmRead (parse_answer state page)
parse-calm state page = for-title-calm (real_title page)
    (λ title. cond (page_exists state.history title) (shows (parse_entries (page_shown state title))) (fails missingtitle))
    (λ title. either-read (page_exists state.history title) (shows (parse_entries (page_shown state title))) (fails missingtitle)
    (λ journal. refl) (λ journal. refl))

expanded-calm : (state : State) (text : List ℕ) (title : PageTitle) → CalmRead (expanded_in state text title)
expanded-calm state text title =
    either-read (nat_lt max_text (length text)) (fails contenttoobig)
    (shows (expand_entries (text_shown (drafted_in (world_of state) title (Some text))))) (λ journal. refl) (λ journal. refl)

listed-calm : {X : Type 0} (name : List ℕ) (entries_of : X → Entries) (place : Option ℕ) (limit : ℕ) (found : List X)
    → CalmRead (listed name entries_of place limit found)
listed-calm name entries_of None limit found journal = refl
listed-calm name entries_of (Some n) limit found journal = refl

backlinks-calm : (state : State) (listing : Listing) (title : PageTitle) → CalmRead (backlinks_of state listing title)
backlinks-calm state listing title =
    let found = linking_pages state.stored title (unwrap_or listing.from 0) (listing.limit + 1) in
    listed-calm (codes "backlinks") (page_entries state.history) (last_listed (λ page. page) listing.limit found) listing.limit found

embedding-calm : (state : State) (listing : Listing) (title : PageTitle) → CalmRead (embedding_of state listing title)
embedding-calm state listing title =
    let found = users state.stored title Text (unwrap_or listing.from 0) (listing.limit + 1) in
    listed-calm (codes "embeddedin") (page_entries state.history) (last_listed (λ page. page) listing.limit found) listing.limit found

changes-calm : (state : State) (listing : Listing) → CalmRead (changes_answer state listing)
changes-calm state listing =
    let found = changes_below state.history (below state.history listing) (listing.limit + 1) in
    listed-calm (codes "recentchanges") (change_entries state.history) (last_listed (λ revision. revision.0) listing.limit found) listing.limit found

members-calm : (state : State) (listing : Listing) (title : PageTitle) → CalmRead (members_of state listing title)
members-calm state listing title =
    either-read (not (int_eq title.ns (pos 14))) (fails invalidcategory) (members_listed state title (unwrap_or listing.from 0) listing.limit)
    (λ journal. refl)
    (listed-calm (codes "categorymembers") (member_entries state.history)
    (members_passed (unwrap_or listing.from 0) listing.limit (members_behind state.stored title (unwrap_or listing.from 0) (listing.limit + 1)))
    listing.limit (members_behind state.stored title (unwrap_or listing.from 0) (listing.limit + 1)))

revisions-calm : (h : History) (listing : Listing) (content : Bool) (title : PageTitle) → CalmRead (revisions_of h listing content title)
revisions-calm h listing content title = by (page_number h title)
  where
    by : (o : Option ℕ) → CalmRead (elim o as (λ p. ReadAnswer) [
      | None ↦ fails missingtitle
      | Some page ↦
          revisions_listed (codes "revisions") (revision_entries content) listing.limit
          (page_revisions_below h page (below h listing) (listing.limit + 1))
    ])
    by None = λ journal. refl
    by (Some page) =
        let found = page_revisions_below h page (below h listing) (listing.limit + 1) in
        listed-calm (codes "revisions") (revision_entries content) (last_listed (λ revision. revision.0) listing.limit found) listing.limit found

request-calm : (refusal : RequestRefusal) (point : ℕ) → Calm (api_error (request_error refusal) point)
request-calm (bad_value parameter) point = refl
request-calm must_be_posted point = refl
request-calm bad_token point = refl
request-calm (no_title parameter) point = refl
request-calm no_text point = refl
request-calm (bad_integer parameter) point = refl

refusal-calm : (refusal : Refusal) (point : ℕ) → Calm (api_error (save_error refusal) point)
refusal-calm invalid_title point = refl
refusal-calm content_too_big point = refl
refusal-calm article_exists point = refl
refusal-calm missing_title point = refl
refusal-calm (edit_conflict current) point = refl
refusal-calm (wiki_full limit) point = refl
refusal-calm journal_full point = refl

outcome-calm : (entries_of : SaveOutcome → Entries) (outcome : Option SaveOutcome) (point : ℕ) → ((o : SaveOutcome) → Calm (reply_beside (entries_of o) point))
    → Calm (reply_beside (outcome_entries entries_of outcome) point)
outcome-calm entries_of None point each = refl
outcome-calm entries_of (Some outcome) point each = each outcome

save-calm : (entries_of : SaveOutcome → Entries) (state : State) (journal moment : ℕ) (v : Verdict) → ((o : SaveOutcome) (point : ℕ) → Calm (reply_beside (entries_of o) point))
    → Calm (save_answer entries_of state journal moment v).reply
save-calm entries_of state journal moment (refuse refusal) each = refusal-calm refusal journal
save-calm entries_of state journal moment (no_change title) each =
    outcome-calm entries_of (save_outcome state.history (no_change title)) journal (λ o. each o journal)
save-calm entries_of state journal moment (accept title text) each =
    outcome-calm entries_of (save_outcome state.history (accept title text)) (journal + 1) (λ o. each o (journal + 1))

edit-calm : (outcome : SaveOutcome) (point : ℕ) → Calm (reply_beside (edit_entries outcome) point)
edit-calm outcome point = refl

delete-calm : (outcome : SaveOutcome) (point : ℕ) → Calm (reply_beside (delete_entries outcome) point)
delete-calm outcome point = refl

ask-calm : (most : MostHeld) (state : State) (journal moment : ℕ) (ask : Ask) → Calm (answer_to_ask most state journal moment ask).reply
ask-calm most state journal moment (edit asked) = save-calm edit_entries state journal moment (verdict_in most state journal asked) edit-calm
ask-calm most state journal moment (delete title base) =
    save-calm delete_entries state journal moment (verdict_in most state journal (deletion title base)) delete-calm
ask-calm most state journal moment (parse page) = parse-calm state page journal
ask-calm most state journal moment (expand_text text page) = for-title-calm (normal page (pos 0)) (expanded_in state text) (expanded-calm state text) journal
ask-calm most state journal moment (backlinks listing) =
    for-title-calm (normal listing.title (pos 0)) (backlinks_of state listing) (backlinks-calm state listing) journal
ask-calm most state journal moment (embedded listing) =
    for-title-calm (normal listing.title (pos 0)) (embedding_of state listing) (embedding-calm state listing) journal
ask-calm most state journal moment (members listing) =
    for-title-calm (normal listing.title (pos 0)) (members_of state listing) (members-calm state listing) journal
ask-calm most state journal moment (changes listing) = changes-calm state listing journal
ask-calm most state journal moment (revisions listing content) =
    for-title-calm (normal listing.title (pos 0)) (revisions_of state.history listing content) (revisions-calm state.history listing content) journal
ask-calm most state journal moment tokens = refl
ask-calm most state journal moment site_info = refl

pub answer-calm : (most : MostHeld) (state : State) (journal moment : ℕ) (read : ParsedRequest) → Calm (answer_to_parsed most state journal moment read).reply
answer-calm most state journal moment (invalid refusal) = request-calm refusal journal
answer-calm most state journal moment (valid request) =
    request-by most state journal moment (λ (answer : Answered). Calm answer.reply) refl refl refl (ask-calm most state journal moment) request

-- ---- lines

abbrev CalmStep : LineStep → Type 0
CalmStep one = (reply : ApiReply) → one.reply ≡ Some reply → Calm reply

by-reply : (after : WikiScript) (told : ApiReply) → Calm told → CalmStep (record { reply = Some told; after = after })
by-reply after told calm reply is = let same : told ≡ reply = (let e : Some told ≡ Some reply = is in cc) in subst Calm same calm

replied-calm : (after : WikiScript) (entries : Entries) → Calm (reply_beside entries (point_of after)) → CalmStep (replied after entries)
replied-calm after entries calm = by-reply after (reply_beside entries (point_of after)) calm

error-calm : (s : WikiScript) (error : LineError) → CalmStep (refused_line s error)
error-calm s badline = by-reply s (line_error badline (point_of s)) refl
error-calm s linetoolong = by-reply s (line_error linetoolong (point_of s)) refl
error-calm s notticket = by-reply s (line_error notticket (point_of s)) refl
error-calm s noread = by-reply s (line_error noread (point_of s)) refl
error-calm s (needsread title kind) = by-reply s (line_error (needsread title kind) (point_of s)) refl

either-step : (b : Bool) (one other : LineStep) → CalmStep one → CalmStep other → CalmStep (cond b one other)
either-step true one other first second = first
either-step false one other first second = second

module _ (most : MostHeld) (s : WikiScript) where
  claim-calm : (o : Option ClaimOutcome) → CalmStep (elim o as (λ p. LineStep) [
    | None ↦ replied s (nothing_entries (codes "claim"))
    | Some claim ↦ cond (is_claim_refused most s.state (point_of s)) (journal_full_line s) (replied (claimed s claim) (claim_entries claim))
  ])
  claim-calm None = replied-calm s (nothing_entries (codes "claim")) refl
  claim-calm (Some claim) =
      either-step (is_claim_refused most s.state (point_of s)) (journal_full_line s) (replied (claimed s claim) (claim_entries claim)) (by-reply s (api_error journalfull (point_of s)) refl)
      (replied-calm (claimed s claim) (claim_entries claim) refl)

  fan-calm : (o : Option FanOutcome) → CalmStep (elim o as (λ p. LineStep) [
    | None ↦ replied s (nothing_entries (codes "fan"))
    | Some fan ↦ cond (is_fan_refused most s.state (point_of s)) (journal_full_line s) (replied (after_event s Fan) (fan_entries fan))
  ])
  fan-calm None = replied-calm s (nothing_entries (codes "fan")) refl
  fan-calm (Some fan) =
      either-step (is_fan_refused most s.state (point_of s)) (journal_full_line s) (replied (after_event s Fan) (fan_entries fan)) (by-reply s (api_error journalfull (point_of s)) refl)
      (replied-calm (after_event s Fan) (fan_entries fan) refl)

  read-calm : (draft : TicketDraft) → CalmStep (read_step s draft)
  read-calm draft = by (drafted draft)
    where
      by : (o : Outcome Expanded) → CalmStep (elim o as (λ p. LineStep) [
        | done expanded reads ↦ refused_line s noread
        | need title kind reads ↦ read_by_need s draft title kind
      ])
      by (done expanded reads) = error-calm s noread
      by (need title kind reads) =
          let read = present_read s.state title kind in
          by-reply (with_read s draft.ticket read) (reply_beside (read_entries read) (point_of s)) refl

  stale-calm : (ticket : ℕ) (o : Option StaleRead) → CalmStep (finish_by s ticket o)
  stale-calm ticket None = replied-calm (finished s ticket) done_entries refl
  stale-calm ticket (Some stale) = replied-calm (given_back_by s ticket) (stale_entries stale) refl

  finish-calm : (draft : TicketDraft) → CalmStep (finish_step s draft)
  finish-calm draft = by (drafted draft)
    where
      by : (o : Outcome Expanded) → CalmStep (elim o as (λ p. LineStep) [
        | need title kind reads ↦ refused_line s (needsread title kind)
        | done expanded reads ↦ finish_by s draft.ticket (first_stale (world_of s.state) reads)
      ])
      by (done expanded reads) = stale-calm draft.ticket (first_stale (world_of s.state) reads)
      by (need title kind reads) = error-calm s (needsread title kind)

  ticket-calm : (ticket : ℕ) (step_with : WikiScript → TicketDraft → LineStep) → ((draft : TicketDraft) → CalmStep (step_with s draft)) → CalmStep (with_ticket_out s ticket step_with)
  ticket-calm ticket step_with each = by (draft_of s ticket)
    where
      by : (o : Option TicketDraft) → CalmStep (elim o as (λ p. LineStep) [ None ↦ refused_line s notticket | Some draft ↦ step_with s draft ])
      by None = error-calm s notticket
      by (Some draft) = each draft

  pub step-calm : (moment : ℕ) (line : ScriptLine) → CalmStep (line_step most s moment line)
  unfolding line_step
  step-calm moment empty_line = λ reply is. absurd (let e : None ≡ Some reply = is in cc)
  step-calm moment long_line = error-calm s linetoolong
  step-calm moment (api_line request) = by-reply (after_answer s (api_answer most s moment request).event) (api_answer most s moment request).reply (answer-calm most s.state (point_of s) moment request)
  step-calm moment claim_line = claim-calm (claim_outcome s.state (point_of s))
  step-calm moment (read_line ticket) = ticket-calm ticket read_step read-calm
  step-calm moment (finish_line ticket) = ticket-calm ticket finish_step finish-calm
  step-calm moment (giveback_line ticket) = ticket-calm ticket giveback_step (λ draft. replied-calm (given_back_by s draft.ticket) (giveback_entries draft.title) refl)
  step-calm moment fan_line = fan-calm (next_fan_outcome fan_pages s.state)
  step-calm moment restart_line = replied-calm (restarted s) (restart_entries (restarted s).state) refl
  step-calm moment unknown_line = error-calm s badline

-- ---- what a calm reply isn't

no-failure : (reply : ApiReply) → Calm reply → HasNoFailure reply
no-failure reply calm = record {
  memory = λ is. let failed : is_failure reply.value ≡ true = ap (λ (r : ApiReply). is_failure r.value) is in let e : true ≡ false = sym failed ∙ calm in cc;
  store = λ is. let failed : is_failure reply.value ≡ true = ap (λ (r : ApiReply). is_failure r.value) is in let e : true ≡ false = sym failed ∙ calm in cc;
}

pub step-no-failure : (most : MostHeld) (s : WikiScript) (moment : ℕ) (line : ScriptLine) (reply : ApiReply) → (line_step most s moment line).reply ≡ Some reply → HasNoFailure reply
step-no-failure most s moment line reply is = no-failure reply (step-calm most s moment line reply is)

-- want of memory is no fault of the store
pub memory-is-no-fault : (m n : ℕ) → api_error nomemory m ≢ api_error storefault n
memory-is-no-fault m n is = let e : true ≡ false = ap (λ (r : ApiReply). is_memory r.value) is in cc
  where
    open_code : Option (List ℕ) → Bool
    open_code None = false
    open_code (Some code) = bytes_eq code (codes "nomemory")

    is_memory : Data → Bool
    is_memory value = open_code (error_code value)
