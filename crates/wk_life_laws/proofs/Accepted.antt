-- What an accepted edit is.
use Rattle.std.proofs.Common.{◌≡◌, ℕ, Bool, true, false, cond, not, ◌&&◌, ◌||◌, List, Option, Some, None, refl, sym, ap, ◌∙◌, subst, pos, ltb}
use Rattle.std.specs.Prelude.{is_none, is_some, option_map}
use Rattle.std.proofs.lemmas.Bool.{and_from}
use Rattle.wk_text_rules.specs.Titles.{PageTitle, is_page_title, is_virtual, normal}
use Rattle.wk_page_rules.specs.History.{History, can_save, current_revision, current_text, page_exists}
use Rattle.wk_page_rules.specs.Kept.{kept}
use Rattle.wk_page_rules.specs.Verdict.{EditAsked, JournalUse, MostHeld, Verdict, accept, article_exists, body_bytes, content_too_big, edit_conflict, invalid_title, is_conflict, is_journal_full, is_same_text, judged, judged_at, limit_passed, max_text, missing_title, no_change, real_title, refuse, verdict, wiki_full}
use Rattle.wk_title_laws.proofs.NormalRows.{page-title}
use Rattle.wk_wiki_rules.specs.States.{State}
use Rattle.wk_wiki_rules.specs.Events.{Save, step_by, with_saved}
use Rattle.wk_wiki_rules.specs.Verdicts.{journal_use, verdict_in}
use Rattle.wk_wiki_laws.proofs.KeptStates.{with_room-accept, not-refused, changed, within-limits}

-- the page exists, or there is a text and no page need exist
there-or-text : (no_create there : Bool) (text : Option (List ℕ)) → ((no_create || is_none text) && not there) ≡ false → (is_some text || there) ≡ true
there-or-text no_create there (Some text) passed = refl
there-or-text no_create true None passed = refl
there-or-text true false None passed = absurd (let e : true ≡ false = passed in cc)
there-or-text false false None passed = absurd (let e : true ≡ false = passed in cc)

pub record IsAccepted (h : History) (edit : EditAsked) (title : PageTitle) (text : Option (List ℕ)) : Type 0 where
  pub named : real_title edit.title ≡ Some title
  pub possible : (is_some text || page_exists h title) ≡ true
  pub kept_text : text ≡ option_map kept edit.body

module _ (h : History) (most : MostHeld) (edit : EditAsked) where
  at-title : (t title : PageTitle) (x text : Option (List ℕ)) → judged_at h most edit t x ≡ accept title text → (t ≡ title) × ((x ≡ text) × ((is_some x || page_exists h t) ≡ true))
  at-title t title x text is =
      let current = current_revision h t in
      let rest5 = elim (limit_passed h most t x) as (λ p. Verdict) [ None ↦ accept t x | Some limit ↦ refuse (wiki_full limit) ] in
      let rest4 = cond (is_same_text (current_text h t) x) (no_change t) rest5 in
      let rest3 = cond (is_conflict edit.base current) (refuse (edit_conflict current)) rest4 in
      let rest2 = cond ((edit.no_create || is_none x) && not (page_exists h t)) (refuse missing_title) rest3 in
      let rest1 = cond (edit.create_only && page_exists h t) (refuse article_exists) rest2 in
      let one = not-refused (ltb max_text (body_bytes x)) content_too_big rest1 title text is in
      let two = not-refused (edit.create_only && page_exists h t) article_exists rest2 title text one.1 in
      let three = not-refused ((edit.no_create || is_none x) && not (page_exists h t)) missing_title rest3 title text two.1 in
      let four = not-refused (is_conflict edit.base current) (edit_conflict current) rest4 title text three.1 in
      let five = changed (is_same_text (current_text h t) x) t rest5 title text four.1 in
      let six = within-limits (limit_passed h most t x) t title x text five in
      (six.1.0, (six.1.1, there-or-text edit.no_create (page_exists h t) x three.0))

  pub accepted-is : (title : PageTitle) (text : Option (List ℕ)) → judged h most edit ≡ accept title text → IsAccepted h edit title text
  unfolding judged
  accepted-is title text is = by (real_title edit.title) refl is
    where
      by : (o : Option PageTitle) → real_title edit.title ≡ o → (elim o as (λ p. Verdict) [ None ↦ refuse invalid_title | Some t ↦ judged_at h most edit t (option_map kept edit.body) ]) ≡ accept title text → IsAccepted h edit title text
      by None named said = absurd (let e : refuse invalid_title ≡ accept title text = said in cc)
      by (Some t) named said =
          let parts = at-title t title (option_map kept edit.body) text said in
          record {
            named = named ∙ ap (λ u. Some u) parts.0;
            possible = subst (λ (x : Option (List ℕ)). (is_some x || page_exists h title) ≡ true) parts.1.0
                (subst (λ (u : PageTitle). (is_some (option_map kept edit.body) || page_exists h u) ≡ true) parts.0 parts.1.1);
            kept_text = sym parts.1.0;
          }

-- the title that a text names, where it isn't virtual, is one that a page can have
real-title : (text : List ℕ) (title : PageTitle) → real_title text ≡ Some title → is_page_title title ≡ true
real-title text title is = by (normal text (pos 0)) refl is
  where
    by : (o : Option PageTitle) → normal text (pos 0) ≡ o → (elim o as (λ p. Option PageTitle) [ None ↦ None | Some t ↦ cond (is_virtual t) None (Some t) ]) ≡ Some title → is_page_title title ≡ true
    by None named said = absurd (let e : None ≡ Some title = said in cc)
    by (Some t) named said = by_kind (is_virtual t) refl said
      where
        by_kind : (b : Bool) → is_virtual t ≡ b → cond b None (Some t) ≡ Some title → is_page_title title ≡ true
        by_kind true virtual said_so = absurd (let e : None ≡ Some title = said_so in cc)
        by_kind false real said_so =
            let e : Some t ≡ Some title = said_so in
            let same : t ≡ title = cc in
            subst (λ (u : PageTitle). is_page_title u ≡ true) same
            (page-title t (record { text = text; default_ns = pos 0; known = refl; named = named; real = real }))

pub can_save-judged : (h : History) (most : MostHeld) (edit : EditAsked) (title : PageTitle) (text : Option (List ℕ)) → judged h most edit ≡ accept title text → can_save h title text ≡ true
can_save-judged h most edit title text is =
    let accepted = accepted-is h most edit title text is in
    and_from (is_page_title title) (is_some text || page_exists h title) (real-title edit.title title accepted.named) accepted.possible

pub can_save-verdict : (h : History) (most : MostHeld) (used : JournalUse) (edit : EditAsked) (title : PageTitle) (text : Option (List ℕ)) → verdict h most used edit ≡ accept title text → can_save h title text ≡ true
can_save-verdict h most used edit title text is =
    can_save-judged h most edit title text (with_room-accept (is_journal_full most used) (judged h most edit) title text is).1

pub save-stepped : (served : ℕ) (most : MostHeld) (state : State) (journal moment : ℕ) (edit : EditAsked) (title : PageTitle) (text : Option (List ℕ)) → verdict_in most state journal edit ≡ accept title text
    → step_by served state journal (Save title text moment) ≡ Some (with_saved state title text moment)
save-stepped served most state journal moment edit title text is =
    ap (λ b. cond b (Some (with_saved state title text moment)) None) (can_save-verdict state.history most (journal_use state journal) edit title text is)
