-- Requests and replies where no store fails, and pages that exist.
use Rattle.std.proofs.Common.{◌≡◌, ℕ, ◌≤◌, ◌⊎◌, Bool, true, false, cond, List, Option, Some, None, refl, sym, ap, ◌∙◌, subst, inl, inr}
use Rattle.std.specs.Prelude.{IfSome, nat_lt, slice_get, Result, Ok, Err, IfOk, OnErr}
use Rattle.std.proofs.lemmas.Bool.{le-ltb}
use Rattle.serde_json.specs.Data.{Data}
use Rattle.wk_base.specs.Clock.{first_moment}
use Rattle.wk_base.specs.Faults.{Rose}
use Rattle.wk_table_rules.specs.Rows.{StoreTables}
use Rattle.wk_text_rules.specs.Titles.{PageTitle}
use Rattle.wk_page_rules.specs.History.{page_exists}
use Rattle.wk_page_rules.specs.Verdict.{MostHeld, real_title}
use Rattle.wk_wiki_rules.specs.States.{State}
use Rattle.wk_wiki_rules.specs.Events.{Event}
use Rattle.wk_wiki_rules.specs.Passes.{PassSeen, state_seen}
use Rattle.wk_request_rules.specs.Requests.{ParsedRequest, Request, parse, valid}
use Rattle.wk_answer_rules.specs.ApiErrors.{futurepoint, invalidtitle, missingtitle}
use Rattle.wk_answer_rules.specs.Answers.{answer_to_request, read_at}
use Rattle.wk_answer_rules.specs.Pages.{ReadAnswer, fails, page_shown, parse_answer, parse_entries, shows}
use Rattle.wk_answer_rules.specs.Saves.{Answered, failed_at, shown_at}
use Rattle.wk_answer_rules.specs.Values.{ApiReply}
use Rattle.wk_answer_laws.proofs.Points.{request-none}
use Rattle.wk_session_rules.specs.Points.{IsStateAt}
use Rattle.wk_session_rules.specs.Replies.{IsAnswered, out_of_memory, read, saved, store_failed, unread}
use Rattle.wk_core.specs.Seen.{WikiSeen}
use Rattle.wk_core.specs.Steps.{HasMadeAtMost, HasMadeNothing}
use Rattle.wk_answer.specs.Saved.{IsActed, by_fault, by_rule}
use Rattle.wk_complete_laws.proofs.Completing.{start-kept}
use Rattle.wk_complete_laws.specs.Answered.{IsByTheRules, IsStarved, ShowsPage, place_of}

-- ---- a page that exists

-- what is told of a page that exists
shows-page : (state : State) (page : List ℕ) (title : PageTitle) → real_title page ≡ Some title → page_exists state.history title ≡ true
    → parse_answer state page ≡ shows (parse_entries (page_shown state title))
shows-page state page title named there =
    ap (λ (o : Option PageTitle). elim o [ None ↦ fails invalidtitle | Some t ↦ cond (page_exists state.history t) (shows (parse_entries (page_shown state t))) (fails missingtitle) ]) named
    ∙ ap (λ b. cond b (shows (parse_entries (page_shown state title))) (fails missingtitle)) there

module _ (most : MostHeld) (state : State) (point moment least : ℕ) (page : List ℕ) where
  abbrev told : Bool → Answered
  told flag = answer_to_request most state point moment (record { least = least; ask = parse page; subst = flag })

  -- the answer where the least point is reached, or isn't
  abbrev read_by : Bool → Answered
  read_by early = cond early (failed_at point (futurepoint point)) (read_at point (parse_answer state page))

  -- a read doesn't heed whether a text is to be transformed
  parse-read : (flag : Bool) → told flag ≡ read_by (nat_lt point least)
  unfolding answer_to_request
  parse-read true = refl
  parse-read false = refl

  -- whatever is told, it shows the point
  pub parse-point : (flag : Bool) → (told flag).reply.point ≡ point
  parse-point flag = ap (λ (a : Answered). a.reply.point) (parse-read flag) ∙ by (nat_lt point least)
    where
      found : (answer : ReadAnswer) → (read_at point answer).reply.point ≡ point
      found (shows entries) = refl
      found (fails error) = refl

      by : (early : Bool) → (read_by early).reply.point ≡ point
      by true = refl
      by false = found (parse_answer state page)

  pub parse-shows : (flag : Bool) (title : PageTitle) → real_title page ≡ Some title → page_exists state.history title ≡ true → least ≤ point
      → told flag ≡ shown_at point (parse_entries (page_shown state title))
  parse-shows flag title named there reached =
      parse-read flag ∙ (ap read_by (le-ltb point least reached) ∙ ap (read_at point) (shows-page state page title named there))

-- ---- requests

module _ {K : Type 0} (tells : K → Option StoreTables) (faults : K → ℕ) (old new : WikiSeen K) where
  by-rule-alone : (answered : Answered) (value : Data) → (Rose (faults old.keeper) (faults new.keeper) → ⊥) → IsActed tells faults old new answered value
      → (value ≡ answered.reply.value) × HasMadeAtMost tells old new answered.event
  by-rule-alone answered value no_rise (by_rule is made count) = (is, made)
  by-rule-alone answered value no_rise (by_fault some is rose nothing) = absurd (no_rise rose)

  pub acted-value : {V E : Type 0} (view : V → Data) (answered : Answered) (result : Result V E) → (Rose (faults old.keeper) (faults new.keeper) → ⊥)
      → IfOk result (λ v. IsActed tells faults old new answered (view v)) → IfOk result (λ v. view v ≡ answered.reply.value)
  acted-value view answered (Ok v) no_rise acted = (by-rule-alone answered (view v) no_rise acted).0
  acted-value view answered (Err e) no_rise acted = tt

  pub acted-event : {V E : Type 0} (view : V → Data) (answered : Answered) (result : Result V E) → (Rose (faults old.keeper) (faults new.keeper) → ⊥)
      → IfOk result (λ v. IsActed tells faults old new answered (view v)) → IfOk result (λ _. HasMadeAtMost tells old new answered.event)
  acted-event view answered (Ok v) no_rise acted = (by-rule-alone answered (view v) no_rise acted).1
  acted-event view answered (Err e) no_rise acted = tt

  pub acted-start : {V E : Type 0} (event : Option Event) (result : Result V E) → IfOk result (λ _. HasMadeAtMost tells old new event) → OnErr result (HasMadeNothing tells old new) → new.start ≡ old.start
  acted-start event result made nothing = start-kept tells faults old new event result made nothing

pub told-value : {V E : Type 0} (view : V → Data) (one other : Data) (result : Result V E) → one ≡ other → IfOk result (λ v. view v ≡ one) → IfOk result (λ v. view v ≡ other)
told-value view one other (Ok v) same is = is ∙ same
told-value view one other (Err e) same is = tt

-- ---- replies

module _ (old new : PassSeen) (parsed : ParsedRequest) where
  pub by-the-rules : (failing : Type 0) (moments : List ℕ) (reply : ApiReply) (made : List ℕ) → (failing → ⊥) → IsAnswered failing old new parsed moments reply made
      → IsByTheRules old new parsed moments reply made ⊎ IsStarved old new reply made
  by-the-rules failing moments reply made never (read {point = point} {state = state} are at no_event) = inl (record {
    at = point;
    state = state;
    stands = at;
    told = refl;
    entry = subst (λ (o : Option Event). IfSome o (λ event. slice_get new.journal point ≡ Some event)) (sym no_event) tt;
    alone = sym (ap (λ (o : Option Event). place_of o point) no_event);
  })
  by-the-rules failing moments reply made never (saved {point = point} {state = state} {event = event} are at is entry) = inl (record {
    at = point;
    state = state;
    stands = at;
    told = refl;
    entry = subst (λ (o : Option Event). IfSome o (λ e. slice_get new.journal point ≡ Some e)) (sym is) entry;
    alone = sym (ap (λ (o : Option Event). place_of o point) is);
  })
  by-the-rules failing moments reply made never (store_failed are at is may) = absurd (never may)
  by-the-rules failing moments reply made never (out_of_memory {point = point} {state = state} are at) =
      inr (record { state = state; stands = at; told = refl; nothing = refl })
  by-the-rules failing moments reply made never (unread {point = point} {state = state} at) = inr (record { state = state; stands = at; told = refl; nothing = refl })

module _ (old new : PassSeen) (least : ℕ) (page : List ℕ) (title : PageTitle) (named : real_title page ≡ Some title) where
  abbrev asked : Request
  asked = record { least = least; ask = parse page; subst = false }

  no-event : (state : State) (point moment : ℕ) (event : Event) → (answer_to_request new.start.limits state point moment asked).event ≡ Some event → ⊥
  no-event state point moment event is =
      let e : None ≡ Some event = sym (request-none new.start.limits state point moment asked refl) ∙ is in
      cc

  pub page-shown-or-starved : (failing : Type 0) (moments : List ℕ) (reply : ApiReply) (made : List ℕ) → least ≤ reply.point
      → ((state : State) → state_seen new reply.point ≡ Some state → page_exists state.history title ≡ true)
      → IsAnswered failing old new (valid asked) moments reply made → ShowsPage old new title reply ⊎ IsStarved old new reply made
  page-shown-or-starved failing moments reply made reached there (read {point = point} {state = state} are at no_event) =
      let shown : reply.point ≡ point = parse-point new.start.limits state point (first_moment moments) least page false in
      let exists : page_exists state.history title ≡ true = there state (ap (state_seen new) shown ∙ at.stands) in
      let told = ap (λ (a : Answered). a.reply) (parse-shows new.start.limits state point (first_moment moments) least page false title named exists (subst (λ n. least ≤ n) shown reached)) in
      inl (record {
        state = state;
        stands = subst (λ n. IsStateAt old new n state) (sym shown) at;
        told = told ∙ ap (λ n. (shown_at n (parse_entries (page_shown state title))).reply) (sym shown);
      })
  page-shown-or-starved failing moments reply made reached there (saved {point = point} {state = state} {event = event} are at is entry) = absurd (no-event state point (first_moment moments) event is)
  page-shown-or-starved failing moments reply made reached there (store_failed {point = point} {state = state} {event = event} are at is may) = absurd (no-event state point (first_moment moments) event is)
  page-shown-or-starved failing moments reply made reached there (out_of_memory {point = point} {state = state} are at) =
      inr (record { state = state; stands = at; told = refl; nothing = refl })
  page-shown-or-starved failing moments reply made reached there (unread {point = point} {state = state} at) = inr (record { state = state; stands = at; told = refl; nothing = refl })
