-- What a verdict accepts is possible, and so is the event of each answer.
use Rattle.std.proofs.Common.{◌≡◌, ℕ, pos, Bool, true, false, cond, not, ltb, ◌&&◌, ◌||◌, List, Option, Some, None, refl, sym, ap, ◌∙◌, subst}
use Rattle.std.specs.Prelude.{IsSome, option_map, is_some, is_none}
use Rattle.std.proofs.lemmas.Bool.{and_from}
use Rattle.wk_text_rules.specs.Titles.{PageTitle, normal, is_virtual, is_page_title}
use Rattle.wk_page_rules.specs.declared.Limit.{Limit}
use Rattle.wk_page_rules.specs.History.{History, current_revision, current_text, page_exists, can_save}
use Rattle.wk_page_rules.specs.Kept.{kept}
use Rattle.wk_page_rules.specs.Verdict.{EditAsked, MostHeld, Refusal, Verdict, refuse, no_change, accept, invalid_title, content_too_big, article_exists, missing_title, edit_conflict, wiki_full, journal_full, with_room, judged, judged_at, real_title, max_text, body_bytes, is_conflict, is_same_text, limit_passed, is_journal_full}
use Rattle.wk_view_laws.specs.Titles.{IsPageTitle}
use Rattle.wk_title_laws.proofs.NormalRows.{page-title}
use Rattle.wk_wiki_rules.specs.States.{State}
use Rattle.wk_wiki_rules.specs.Events.{Event, Save, step, with_saved}
use Rattle.wk_wiki_rules.specs.Soundness.{IsSound}
use Rattle.wk_wiki_rules.specs.Verdicts.{verdict_in, journal_use}
use Rattle.wk_wiki_rules.specs.Steps.{fan_pages}
use Rattle.wk_wiki_laws.specs.WellFormed.{IsWellFormed}
use Rattle.wk_wiki_laws.proofs.Saved.{IsSound-saved}
use Rattle.wk_wiki_rules.specs.Calls.{IsMade, by_save}
use Rattle.wk_wiki_rules.specs.SaveOutcomes.{SaveOutcome, deletion}
use Rattle.wk_request_rules.specs.Requests.{Ask, edit, delete, parse, expand_text, backlinks, embedded, members, changes, revisions, tokens, site_info, ParsedRequest, valid, invalid}
use Rattle.wk_answer_rules.specs.Values.{Entries}
use Rattle.wk_answer_rules.specs.ApiErrors.{ApiError, futurepoint, invalidtitle, contenttoobig}
use Rattle.wk_answer_rules.specs.Saves.{Answered, failed_at, save_answer, edit_entries, delete_entries}
use Rattle.wk_answer_rules.specs.Answers.{asks_to_save, answer_to_ask, answer_to_parsed}
use Rattle.wk_answer_laws.proofs.Points.{ask-none, request-by}

-- ---- a title that a save can have

real-page : (title : PageTitle) (text : List ℕ) → real_title text ≡ Some title → IsPageTitle title
real-page title text is = by (normal text (pos 0)) refl is
  where
    by : (o : Option PageTitle) → normal text (pos 0) ≡ o
        → (elim o as (λ p. Option PageTitle) [ None ↦ None | Some t ↦ cond (is_virtual t) None (Some t) ]) ≡ Some title → IsPageTitle title
    by None names is = absurd (let none : None ≡ Some title = is in cc)
    by (Some t) names is = at (is_virtual t) refl is
      where
        at : (b : Bool) → is_virtual t ≡ b → cond b None (Some t) ≡ Some title → IsPageTitle title
        at true virtual is = absurd (let none : None ≡ Some title = is in cc)
        at false virtual is =
            let same : t ≡ title = cc in
            subst IsPageTitle same (record { text = text; default_ns = pos 0; known = refl; named = names; real = virtual })

-- ---- an accepted verdict

accept-judged : (full : Bool) (v : Verdict) (title : PageTitle) (text : Option (List ℕ)) → with_room full v ≡ accept title text → v ≡ accept title text
accept-judged full (refuse r) title text is = absurd (let e : refuse r ≡ accept title text = is in cc)
accept-judged full (no_change t) title text is = absurd (let e : no_change t ≡ accept title text = is in cc)
accept-judged true (accept t x) title text is = absurd (let e : refuse journal_full ≡ accept title text = is in cc)
accept-judged false (accept t x) title text is = is

passes : (b : Bool) (r : Refusal) (rest : Verdict) (title : PageTitle) (text : Option (List ℕ)) → cond b (refuse r) rest ≡ accept title text → (b ≡ false) × (rest ≡ accept title text)
passes true r rest title text is = absurd (let e : refuse r ≡ accept title text = is in cc)
passes false r rest title text is = (refl, is)

differs : (b : Bool) (t : PageTitle) (rest : Verdict) (title : PageTitle) (text : Option (List ℕ)) → cond b (no_change t) rest ≡ accept title text → rest ≡ accept title text
differs true t rest title text is = absurd (let e : no_change t ≡ accept title text = is in cc)
differs false t rest title text is = is

limits-accept : (o : Option Limit) (t title : PageTitle) (x text : Option (List ℕ))
    → (elim o as (λ p. Verdict) [ None ↦ accept t x | Some limit ↦ refuse (wiki_full limit) ]) ≡ accept title text → (t ≡ title) × (x ≡ text)
limits-accept None t title x text is = let e : accept t x ≡ accept title text = is in (cc, cc)
limits-accept (Some limit) t title x text is = absurd (let e : refuse (wiki_full limit) ≡ accept title text = is in cc)

-- a page that isn't missing where it must be there
has-text : (flag : Bool) (body : Option (List ℕ)) (there : Bool) → ((flag || is_none body) && not there) ≡ false → (is_some body || there) ≡ true
has-text flag body true e = or-true (is_some body)
  where
    or-true : (b : Bool) → (b || true) ≡ true
    or-true true = refl
    or-true false = refl
has-text flag (Some text) false e = refl
has-text true None false e = absurd cc
has-text false None false e = absurd cc

module _ (h : History) (most : MostHeld) (asked : EditAsked) where
  -- what is accepted is this title and this text, and no page that must be there is missing
  at-parts : (t title : PageTitle) (x text : Option (List ℕ)) → judged_at h most asked t x ≡ accept title text
      → (((asked.no_create || is_none x) && not (page_exists h t)) ≡ false) × (t ≡ title) × (x ≡ text)
  at-parts t title x text is =
      let current = current_revision h t in
      let rest5 = elim (limit_passed h most t x) as (λ p. Verdict) [ None ↦ accept t x | Some limit ↦ refuse (wiki_full limit) ] in
      let rest4 = cond (is_same_text (current_text h t) x) (no_change t) rest5 in
      let rest3 = cond (is_conflict asked.base current) (refuse (edit_conflict current)) rest4 in
      let rest2 = cond ((asked.no_create || is_none x) && not (page_exists h t)) (refuse missing_title) rest3 in
      let rest1 = cond (asked.create_only && page_exists h t) (refuse article_exists) rest2 in
      let one = passes (ltb max_text (body_bytes x)) content_too_big rest1 title text is in
      let two = passes (asked.create_only && page_exists h t) article_exists rest2 title text one.1 in
      let three = passes ((asked.no_create || is_none x) && not (page_exists h t)) missing_title rest3 title text two.1 in
      let four = passes (is_conflict asked.base current) (edit_conflict current) rest4 title text three.1 in
      let five = differs (is_same_text (current_text h t) x) t rest5 title text four.1 in
      let six = limits-accept (limit_passed h most t x) t title x text five in
      (three.0, six.0, six.1)

  judged-at : (t title : PageTitle) (x text : Option (List ℕ)) → IsPageTitle t → judged_at h most asked t x ≡ accept title text → can_save h title text ≡ true
  judged-at t title x text page is =
      let parts = at-parts t title x text is in
      let first : can_save h t x ≡ true = and_from (is_page_title t) (is_some x || page_exists h t) (page-title t page) (has-text asked.no_create x (page_exists h t) parts.0) in
      subst (λ (y : Option (List ℕ)). can_save h title y ≡ true) parts.2 (subst (λ (u : PageTitle). can_save h u x ≡ true) parts.1 first)

  judged-possible : (title : PageTitle) (text : Option (List ℕ)) → judged h most asked ≡ accept title text → can_save h title text ≡ true
  unfolding judged
  judged-possible title text is = by (real_title asked.title) refl is
    where
      by : (o : Option PageTitle) → real_title asked.title ≡ o
          → (elim o as (λ p. Verdict) [ None ↦ refuse invalid_title | Some t ↦ judged_at h most asked t (option_map kept asked.body) ]) ≡ accept title text
          → can_save h title text ≡ true
      by None named is = absurd (let e : refuse invalid_title ≡ accept title text = is in cc)
      by (Some t) named is = judged-at t title (option_map kept asked.body) text (real-page t asked.title named) is

  judged-is : (title : PageTitle) (text : Option (List ℕ)) → judged h most asked ≡ accept title text → (real_title asked.title ≡ Some title) × (option_map kept asked.body ≡ text)
  unfolding judged
  judged-is title text is = by (real_title asked.title) refl is
    where
      by : (o : Option PageTitle) → real_title asked.title ≡ o
          → (elim o as (λ p. Verdict) [ None ↦ refuse invalid_title | Some t ↦ judged_at h most asked t (option_map kept asked.body) ]) ≡ accept title text
          → (real_title asked.title ≡ Some title) × (option_map kept asked.body ≡ text)
      by None named is = absurd (let e : refuse invalid_title ≡ accept title text = is in cc)
      by (Some t) named is =
          let parts = at-parts t title (option_map kept asked.body) text is in
          (named ∙ ap (λ (u : PageTitle). Some u) parts.1, parts.2)

pub accepted-possible : (most : MostHeld) (state : State) (journal : ℕ) (asked : EditAsked) (title : PageTitle) (text : Option (List ℕ))
    → verdict_in most state journal asked ≡ accept title text → can_save state.history title text ≡ true
accepted-possible most state journal asked title text is =
    judged-possible state.history most asked title text
    (accept-judged (is_journal_full most (journal_use state journal)) (judged state.history most asked) title text is)

-- what a verdict accepts is the title that the edit names, and its text as a page keeps it
pub accepted-is : (most : MostHeld) (state : State) (journal : ℕ) (asked : EditAsked) (title : PageTitle) (text : Option (List ℕ))
    → verdict_in most state journal asked ≡ accept title text → (real_title asked.title ≡ Some title) × (option_map kept asked.body ≡ text)
accepted-is most state journal asked title text is =
    judged-is state.history most asked title text
    (accept-judged (is_journal_full most (journal_use state journal)) (judged state.history most asked) title text is)

-- ---- the event of an answer

-- what is true of each event that an answer makes: it is a save that is possible
pub record IsPossibleSave (most : MostHeld) (state : State) (journal : ℕ) (event : Event) : Type 0 where
  pub asked : EditAsked
  pub title : PageTitle
  pub text : Option (List ℕ)
  pub moment : ℕ
  pub accepted : verdict_in most state journal asked ≡ accept title text
  pub is : event ≡ Save title text moment
  pub can : can_save state.history title text ≡ true

abbrev Possible : MostHeld → State → ℕ → Answered → Type 0
Possible most state journal answer = (event : Event) → answer.event ≡ Some event → IsPossibleSave most state journal event

save-event : (entries_of : SaveOutcome → Entries) (most : MostHeld) (state : State) (journal moment : ℕ) (asked : EditAsked) (v : Verdict)
    → verdict_in most state journal asked ≡ v → Possible most state journal (save_answer entries_of state journal moment v)
save-event entries_of most state journal moment asked (refuse refusal) is event made = absurd (let none : None ≡ Some event = made in cc)
save-event entries_of most state journal moment asked (no_change title) is event made = absurd (let none : None ≡ Some event = made in cc)
save-event entries_of most state journal moment asked (accept title text) is event made =
    let some : Some (Save title text moment) ≡ Some event = made in
    record { asked = asked; title = title; text = text; moment = moment; accepted = is; is = cc; can = accepted-possible most state journal asked title text is }

refused-event : (most : MostHeld) (state : State) (journal : ℕ) (error : ApiError) → Possible most state journal (failed_at journal error)
refused-event most state journal error event made = absurd (let none : None ≡ Some event = made in cc)

none-made : (most : MostHeld) (state : State) (journal moment : ℕ) (ask : Ask) → asks_to_save ask ≡ false → Possible most state journal (answer_to_ask most state journal moment ask)
none-made most state journal moment ask reads event made =
    absurd (let none : None ≡ Some event = sym (ask-none most state journal moment ask reads) ∙ made in cc)

ask-event : (most : MostHeld) (state : State) (journal moment : ℕ) (ask : Ask) → Possible most state journal (answer_to_ask most state journal moment ask)
ask-event most state journal moment (edit asked) = save-event edit_entries most state journal moment asked (verdict_in most state journal asked) refl
ask-event most state journal moment (delete title base) =
    save-event delete_entries most state journal moment (deletion title base) (verdict_in most state journal (deletion title base)) refl
ask-event most state journal moment (parse page) = none-made most state journal moment (parse page) refl
ask-event most state journal moment (expand_text text page) = none-made most state journal moment (expand_text text page) refl
ask-event most state journal moment (backlinks listing) = none-made most state journal moment (backlinks listing) refl
ask-event most state journal moment (embedded listing) = none-made most state journal moment (embedded listing) refl
ask-event most state journal moment (members listing) = none-made most state journal moment (members listing) refl
ask-event most state journal moment (changes listing) = none-made most state journal moment (changes listing) refl
ask-event most state journal moment (revisions listing content) = none-made most state journal moment (revisions listing content) refl
ask-event most state journal moment tokens = none-made most state journal moment tokens refl
ask-event most state journal moment site_info = none-made most state journal moment site_info refl

pub event-possible : (most : MostHeld) (state : State) (journal moment : ℕ) (read : ParsedRequest) → Possible most state journal (answer_to_parsed most state journal moment read)
event-possible most state journal moment (invalid refusal) = λ event made. absurd (let none : None ≡ Some event = made in cc)
event-possible most state journal moment (valid request) =
    request-by most state journal moment (Possible most state journal) (refused-event most state journal (futurepoint journal))
    (refused-event most state journal invalidtitle) (refused-event most state journal contenttoobig) (ask-event most state journal moment) request

pub possible-step : (most : MostHeld) (state : State) (journal : ℕ) (event : Event) → IsPossibleSave most state journal event → IsSome (step state journal event)
possible-step most state journal event save =
    subst (λ (e : Event). IsSome (step state journal e)) (sym save.is)
    (subst (λ (b : Bool). IsSome (cond b (Some (with_saved state save.title save.text save.moment)) None)) (sym save.can) refl)

pub made-by-call : (most : MostHeld) (state : State) (journal : ℕ) (event : Event) → IsPossibleSave most state journal event → IsMade most state journal event
made-by-call most state journal event save = subst (IsMade most state journal) (sym save.is) (by_save save.asked save.accepted)

pub sound-behind : (most : MostHeld) (state next : State) (journal : ℕ) (event : Event) → IsPossibleSave most state journal event → step state journal event ≡ Some next
    → IsWellFormed state → IsSound state → IsSound next
sound-behind most state next journal event save stepped formed sound =
    IsSound-saved fan_pages state next journal save.title save.text save.moment formed
    (sym (ap (λ (e : Event). step state journal e) save.is) ∙ stepped) sound
