-- What a call saved is accepted again as a plain save of its shown title and its text.
use Rattle.std.proofs.Common.{◌≡◌, ℕ, Bool, true, false, cond, not, ◌&&◌, ◌||◌, ltb, List, Option, Some, None, refl, sym, ap, ◌∙◌}
use Rattle.std.specs.Prelude.{is_none, option_map}
use Rattle.std.proofs.lemmas.Bool.{and_parts}
use Rattle.wk_text_rules.specs.Titles.{PageTitle, is_page_title, is_virtual, shown}
use Rattle.wk_page_rules.specs.declared.Limit.{Limit}
use Rattle.wk_page_rules.specs.History.{History, current_revision, current_text, page_exists}
use Rattle.wk_page_rules.specs.Kept.{kept}
use Rattle.wk_page_rules.specs.Verdict.{EditAsked, MostHeld, Verdict, accept, article_exists, body_bytes, content_too_big, edit_conflict, invalid_title, is_conflict, is_journal_full, is_same_text, judged, judged_at, limit_passed, max_text, missing_title, no_change, real_title, refuse, wiki_full, with_room}
use Rattle.wk_title_laws.proofs.Law.{shown_names}
use Rattle.wk_title_laws.proofs.NormalRows.{page-title-back}
use Rattle.wk_wiki_rules.specs.States.{State}
use Rattle.wk_wiki_rules.specs.Verdicts.{journal_use, verdict_in}
use Rattle.wk_wiki_laws.proofs.KeptStates.{with_room-accept, not-refused, changed, within-limits}
use Rattle.wk_life_laws.proofs.Accepted.{accepted-is, can_save-judged}
use Rattle.wk_life_laws.proofs.KeptAgain.{kept-again}
use Rattle.wk_feed_rules.specs.Taking.{plain_save}

-- ---- the title and the text

-- the shown form of a title that pages can have names it
real-shown : (title : PageTitle) → is_page_title title ≡ true → real_title (shown title) ≡ Some title
real-shown title is =
    let page = page-title-back title is in
    ap (λ (o : Option PageTitle). elim o as (λ p. Option PageTitle) [ None ↦ None | Some t ↦ cond (is_virtual t) None (Some t) ])
    (shown_names page.text page.default_ns title page.known page.named)
    ∙ ap (λ b. cond b None (Some title)) page.real

kept-body : (body : Option (List ℕ)) → option_map kept (option_map kept body) ≡ option_map kept body
kept-body None = refl
kept-body (Some text) = ap (λ t. Some t) (kept-again text)

-- ---- the refusals

unchanged : (b : Bool) (t : PageTitle) (rest : Verdict) (title : PageTitle) (text : Option (List ℕ)) → cond b (no_change t) rest ≡ accept title text → b ≡ false
unchanged true t rest title text is = absurd (let e : no_change t ≡ accept title text = is in cc)
unchanged false t rest title text is = refl

there : (no_create none exists : Bool) → ((no_create || none) && not exists) ≡ false → (none && not exists) ≡ false
there true none true e = elim none as (λ n. (n && false) ≡ false) [ true ↦ refl | false ↦ refl ]
there true none false e = absurd (let no : true ≡ false = e in cc)
there false none exists e = e

-- what is judged of a plain save, by what is found of it
abbrev plain_by : PageTitle → Option (List ℕ) → Bool → Bool → Bool → Option Limit → Verdict
plain_by t x too_big missing same passed =
    cond too_big (refuse content_too_big) (cond missing (refuse missing_title) (cond same (no_change t) (elim passed as (λ p. Verdict) [ None ↦ accept t x | Some limit ↦ refuse (wiki_full limit) ])))

-- what is judged of an edit, by the title that it names and the text that is kept
abbrev judged_by : History → MostHeld → EditAsked → Option PageTitle → Option (List ℕ) → Verdict
judged_by h most asked o x = elim o as (λ p. Verdict) [ None ↦ refuse invalid_title | Some t ↦ judged_at h most asked t x ]

module _ (h : History) (most : MostHeld) (edit : EditAsked) where
  at-title : (t : PageTitle) (x : Option (List ℕ)) → judged_at h most edit t x ≡ accept t x → judged_at h most (plain_save (shown t) x) t x ≡ accept t x
  at-title t x is =
      let current = current_revision h t in
      let rest5 = elim (limit_passed h most t x) as (λ p. Verdict) [ None ↦ accept t x | Some limit ↦ refuse (wiki_full limit) ] in
      let rest4 = cond (is_same_text (current_text h t) x) (no_change t) rest5 in
      let rest3 = cond (is_conflict edit.base current) (refuse (edit_conflict current)) rest4 in
      let rest2 = cond ((edit.no_create || is_none x) && not (page_exists h t)) (refuse missing_title) rest3 in
      let rest1 = cond (edit.create_only && page_exists h t) (refuse article_exists) rest2 in
      let one = not-refused (ltb max_text (body_bytes x)) content_too_big rest1 t x is in
      let two = not-refused (edit.create_only && page_exists h t) article_exists rest2 t x one.1 in
      let three = not-refused ((edit.no_create || is_none x) && not (page_exists h t)) missing_title rest3 t x two.1 in
      let four = not-refused (is_conflict edit.base current) (edit_conflict current) rest4 t x three.1 in
      let same = unchanged (is_same_text (current_text h t) x) t rest5 t x four.1 in
      let five = changed (is_same_text (current_text h t) x) t rest5 t x four.1 in
      let six = within-limits (limit_passed h most t x) t t x x five in
      let missing = there edit.no_create (is_none x) (page_exists h t) three.0 in
      λ i. plain_by t x (one.0 i) (missing i) (same i) (six.0 i)

  pub plain-again : (title : PageTitle) (text : Option (List ℕ)) → judged h most edit ≡ accept title text → judged h most (plain_save (shown title) text) ≡ accept title text
  unfolding judged
  plain-again title text is =
      let accepted = accepted-is h most edit title text is in
      let page = (and_parts (is_page_title title) _ (can_save-judged h most edit title text is)).0 in
      let same : option_map kept text ≡ text = ap (option_map kept) accepted.kept_text ∙ (kept-body edit.body ∙ sym accepted.kept_text) in
      let at : judged_at h most edit title text ≡ accept title text =
      ap (λ (o : Option PageTitle). judged_by h most edit o text) (sym accepted.named)
      ∙ (ap (λ (x : Option (List ℕ)). judged_by h most edit (real_title edit.title) x) accepted.kept_text ∙ is)
      in
      ap (λ (o : Option PageTitle). judged_by h most (plain_save (shown title) text) o (option_map kept text)) (real-shown title page)
      ∙ (ap (λ (x : Option (List ℕ)). judged_at h most (plain_save (shown title) text) title x) same ∙ at-title title text at)

pub verdict-again : (most : MostHeld) (state : State) (journal : ℕ) (edit : EditAsked) (title : PageTitle) (text : Option (List ℕ)) → verdict_in most state journal edit ≡ accept title text
    → verdict_in most state journal (plain_save (shown title) text) ≡ accept title text
verdict-again most state journal edit title text is =
    let full = is_journal_full most (journal_use state journal) in
    let parts = with_room-accept full (judged state.history most edit) title text is in
    ap (λ b. with_room b (judged state.history most (plain_save (shown title) text))) parts.0
    ∙ ap (with_room false) (plain-again state.history most edit title text parts.1)
