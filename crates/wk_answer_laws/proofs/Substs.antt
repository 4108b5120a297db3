-- What the flag `subst` does: a text is transformed before its edit is judged, and nothing else heeds it.
use Rattle.std.proofs.Common.{◌≡◌, ℕ, Bool, true, false, cond, ltb, List, Option, Some, None, refl, sym, ap, ◌∙◌}
use Rattle.std.specs.Prelude.{nat_lt, option_map}
use Rattle.wk_text_rules.specs.Titles.{PageTitle}
use Rattle.wk_page_rules.specs.Kept.{kept}
use Rattle.wk_page_rules.specs.Verdict.{EditAsked, MostHeld, Verdict, refuse, no_change, accept, real_title, max_text, body_bytes}
use Rattle.wk_wiki_rules.specs.States.{State}
use Rattle.wk_wiki_rules.specs.Events.{Event, Save}
use Rattle.wk_wiki_rules.specs.Verdicts.{verdict_in}
use Rattle.wk_request_rules.specs.Requests.{Ask, edit, delete, parse, expand_text, backlinks, embedded, members, changes, revisions, tokens, site_info, Request, edited_text, text_to_transform}
use Rattle.wk_answer_rules.specs.ApiErrors.{futurepoint, invalidtitle, contenttoobig}
use Rattle.wk_answer_rules.specs.Saves.{Answered, failed_at, save_answer, edit_answer, edit_entries, subst_answer}
use Rattle.wk_answer_rules.specs.Transforms.{transformed, transformed_edit}
use Rattle.wk_answer_rules.specs.Answers.{answer_to_ask, answer_with_subst, answer_to_request}
use Rattle.wk_answer_laws.specs.Substituted.{IsSubstitutedSave}
use Rattle.wk_answer_laws.proofs.Points.{either}
use Rattle.wk_answer_laws.proofs.Possible.{accepted-is}
use Rattle.wk_answer_laws.proofs.Orders.{bad-title, subst-untitled, subst-judged}

module _ (most : MostHeld) (state : State) (journal moment : ℕ) where
  -- ---- nothing else heeds it

  -- an edit without a text has nothing to be transformed
  bodiless : (asked : EditAsked) → asked.body ≡ None → subst_answer most state journal moment asked ≡ edit_answer most state journal moment asked
  bodiless asked none = by (real_title asked.title) refl
    where
      by : (o : Option PageTitle) → real_title asked.title ≡ o → subst_answer most state journal moment asked ≡ edit_answer most state journal moment asked
      by None named = subst-untitled most state journal moment asked named ∙ sym (bad-title edit_entries most state journal moment asked named)
      by (Some title) named =
          subst-judged most state journal moment asked title named (ap (λ (body : Option (List ℕ)). ltb max_text (body_bytes body)) none)
          ∙ ap (λ (body : Option (List ℕ)). edit_answer most state journal moment (record asked { body = body })) (ap (option_map (transformed state)) none ∙ sym none)

  flag-unheeded : (flag : Bool) (ask : Ask) → cond flag (edited_text ask) None ≡ None
      → cond flag (answer_with_subst most state journal moment ask) (answer_to_ask most state journal moment ask) ≡ answer_to_ask most state journal moment ask
  flag-unheeded false ask none = refl
  flag-unheeded true (edit asked) none = bodiless asked none
  flag-unheeded true (delete title base) none = refl
  flag-unheeded true (parse page) none = refl
  flag-unheeded true (expand_text text page) none = refl
  flag-unheeded true (backlinks listing) none = refl
  flag-unheeded true (embedded listing) none = refl
  flag-unheeded true (members listing) none = refl
  flag-unheeded true (changes listing) none = refl
  flag-unheeded true (revisions listing content) none = refl
  flag-unheeded true tokens none = refl
  flag-unheeded true site_info none = refl

  -- without a text to transform the answer is that to what is asked
  pub untransformed : (request : Request) → text_to_transform request ≡ None
      → answer_to_request most state journal moment request
      ≡ cond (nat_lt journal request.least) (failed_at journal (futurepoint journal)) (answer_to_ask most state journal moment request.ask)
  unfolding answer_to_request
  untransformed request none = ap (cond (nat_lt journal request.least) (failed_at journal (futurepoint journal))) (flag-unheeded request.subst request.ask none)

  pub unflagged : (request : Request) → text_to_transform request ≡ None
      → answer_to_request most state journal moment request ≡ answer_to_request most state journal moment (record request { subst = false })
  unflagged request none = untransformed request none ∙ sym (untransformed (record request { subst = false }) refl)

  -- ---- the save of what a text becomes

  -- a save of what an edit names, and of its text as a page keeps it
  abbrev SavesKept : EditAsked → Event → Type 0
  SavesKept asked event = (title : PageTitle) × (real_title asked.title ≡ Some title) × (event ≡ Save title (option_map kept asked.body) moment)

  saves-kept : (asked : EditAsked) (v : Verdict) (event : Event) → verdict_in most state journal asked ≡ v
      → (save_answer edit_entries state journal moment v).event ≡ Some event → SavesKept asked event
  saves-kept asked (refuse refusal) event is made = absurd (let none : None ≡ Some event = made in cc)
  saves-kept asked (no_change title) event is made = absurd (let none : None ≡ Some event = made in cc)
  saves-kept asked (accept title text) event is made =
      let some : Some (Save title text moment) ≡ Some event = made in
      let same : Save title text moment ≡ event = cc in
      let parts = accepted-is most state journal asked title text is in
      (title, parts.0, sym same ∙ ap (λ (body : Option (List ℕ)). Save title body moment) (sym parts.1))

  subst-event : (asked : EditAsked) (o : Option PageTitle) (event : Event)
      → (elim o as (λ p. Answered) [
        | None ↦ failed_at journal invalidtitle
        | Some title ↦ cond (ltb max_text (body_bytes asked.body)) (failed_at journal contenttoobig) (edit_answer most state journal moment (transformed_edit state asked))
      ]).event ≡ Some event
      → SavesKept (transformed_edit state asked) event
  subst-event asked None event made = absurd (let none : None ≡ Some event = made in cc)
  subst-event asked (Some title) event made =
      either (ltb max_text (body_bytes asked.body)) (λ answer. answer.event ≡ Some event → SavesKept (transformed_edit state asked) event)
      (failed_at journal contenttoobig) (edit_answer most state journal moment (transformed_edit state asked))
      (λ big none. absurd (let e : None ≡ Some event = none in cc))
      (λ fits some. saves-kept (transformed_edit state asked) (verdict_in most state journal (transformed_edit state asked)) event refl some) made

  edit-saves : (asked : EditAsked) (text : List ℕ) (event : Event) → asked.body ≡ Some text → (subst_answer most state journal moment asked).event ≡ Some event
      → IsSubstitutedSave (edit asked) state text moment event
  edit-saves asked text event is made =
      let saved = subst-event asked (real_title asked.title) event made in
      record {
        asked = asked;
        edits = refl;
        title = saved.0;
        named = saved.1;
        saves = saved.2 ∙ ap (λ (body : Option (List ℕ)). Save saved.0 (option_map kept (option_map (transformed state) body)) moment) is;
      }

  flagged-saves : (flag : Bool) (ask : Ask) (text : List ℕ) (event : Event) → cond flag (edited_text ask) None ≡ Some text
      → (cond flag (answer_with_subst most state journal moment ask) (answer_to_ask most state journal moment ask)).event ≡ Some event
      → IsSubstitutedSave ask state text moment event
  flagged-saves false ask text event is made = absurd (let none : None ≡ Some text = is in cc)
  flagged-saves true (edit asked) text event is made = edit-saves asked text event is made
  flagged-saves true (delete title base) text event is made = absurd (let none : None ≡ Some text = is in cc)
  flagged-saves true (parse page) text event is made = absurd (let none : None ≡ Some text = is in cc)
  flagged-saves true (expand_text given page) text event is made = absurd (let none : None ≡ Some text = is in cc)
  flagged-saves true (backlinks listing) text event is made = absurd (let none : None ≡ Some text = is in cc)
  flagged-saves true (embedded listing) text event is made = absurd (let none : None ≡ Some text = is in cc)
  flagged-saves true (members listing) text event is made = absurd (let none : None ≡ Some text = is in cc)
  flagged-saves true (changes listing) text event is made = absurd (let none : None ≡ Some text = is in cc)
  flagged-saves true (revisions listing content) text event is made = absurd (let none : None ≡ Some text = is in cc)
  flagged-saves true tokens text event is made = absurd (let none : None ≡ Some text = is in cc)
  flagged-saves true site_info text event is made = absurd (let none : None ≡ Some text = is in cc)

  pub substituted-save : (request : Request) (text : List ℕ) (event : Event) → text_to_transform request ≡ Some text
      → (answer_to_request most state journal moment request).event ≡ Some event → IsSubstitutedSave request.ask state text moment event
  unfolding answer_to_request
  substituted-save request text event is made =
      either (nat_lt journal request.least) (λ answer. answer.event ≡ Some event → IsSubstitutedSave request.ask state text moment event)
      (failed_at journal (futurepoint journal))
      (cond request.subst (answer_with_subst most state journal moment request.ask) (answer_to_ask most state journal moment request.ask))
      (λ early none. absurd (let e : None ≡ Some event = none in cc))
      (λ reached some. flagged-saves request.subst request.ask text event is some) made
