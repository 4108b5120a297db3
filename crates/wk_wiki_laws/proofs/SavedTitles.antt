-- The titles of pages after a save.
use Rattle.std.proofs.Common.{◌≡◌, ℕ, zero, suc, ◌+◌, ◌-◌, ◌≤◌, ◌<◌, Bool, false, cond, eqb, ltb, not, List, [], ◌∷◌, length, unwrap_or, Option, refl, sym, ap, ◌∙◌, inl, inr, arith, pos}
use Rattle.std.specs.Prelude.{slice_get, option_map, position, is_some}
use Rattle.std.specs.List.{position_or_len}
use Rattle.std.proofs.Math.Numerals.{one-add}
use Rattle.std.proofs.lemmas.Bool.{cases_Bool, ne_eqb, ltb-false}
use Rattle.std.proofs.lemmas.List.Sums.{prefix_len-le-length}
use Rattle.wk_text_rules.specs.Titles.{PageTitle, title_eq}
use Rattle.wk_page_rules.specs.History.{History, Page, next_revision, page_to_save, with_current, saved}
use Rattle.wk_view_laws.proofs.PlanLemmas.{title_eq-true}
use Rattle.wk_wiki_rules.specs.States.{title_at}
use Rattle.wk_wiki_laws.proofs.Saved.{pages-saved}

abbrev titled : Option Page → PageTitle
titled o = unwrap_or (option_map (λ (page : Page). page.title) o) (record { ns = pos 0; key = [] })

module _ (title : PageTitle) (number : ℕ) where
  abbrev is_it : Page → Bool
  is_it page = title_eq page.title title

  -- the pages that were there keep their titles
  titles-kept : (pages : List Page) (place : ℕ) → place < length pages → titled (slice_get (with_current pages title number) place) ≡ titled (slice_get pages place)
  titles-kept [] place below = absurd (omega (arith, below))
  titles-kept (page ∷ pages) zero below = elim (cases_Bool (title_eq page.title title)) [ inl same ↦ rw same refl | inr other ↦ rw other refl ]
  titles-kept (page ∷ pages) (suc place) below = elim (cases_Bool (title_eq page.title title)) [
    | inl same ↦ rw same refl
    | inr other ↦ rw other (titles-kept pages place (omega (arith, below)))
  ]

  -- and the page of the save has its title
  title-own : (pages : List Page) → titled (slice_get (with_current pages title number) (position_or_len is_it pages)) ≡ title
  title-own [] = refl
  title-own (page ∷ pages) = elim (cases_Bool (title_eq page.title title)) [
    | inl same ↦ rw same (title_eq-true page.title title same)
    | inr other ↦ rw (other, one-add) (title-own pages)
  ]

  number-is : (pages : List Page) → unwrap_or (option_map (λ place. place + 1) (position is_it pages)) (length pages + 1) ≡ position_or_len is_it pages + 1
  number-is pages = elim (cases_Bool (ltb (position_or_len is_it pages) (length pages))) [
    | inl within ↦ rw within refl
    | inr past ↦
        let up = ltb-false (position_or_len is_it pages) (length pages) past in
        let down = prefix_len-le-length (λ page. not (is_it page)) pages in
        let last : position_or_len is_it pages ≡ length pages = omega (arith, up, down) in
        rw past (ap (λ n. n + 1) (sym last))
  ]

module _ (h : History) (title : PageTitle) (text : Option (List ℕ)) (moment : ℕ) where
  abbrev number : ℕ
  number = cond (is_some text) (next_revision h) 0

  abbrev after : History
  after = saved h title text moment

  pub page-place : page_to_save h title ≡ position_or_len (λ (page : Page). title_eq page.title title) h.pages + 1
  page-place = number-is title number h.pages

  pub title-kept : (n : ℕ) → 1 ≤ n → n ≤ length h.pages → title_at after n ≡ title_at h n
  title-kept n low high =
      let positive : eqb n 0 ≡ false = ne_eqb n 0 (λ none. omega (arith, none, low)) in
      rw positive (ap (λ (ps : List Page). titled (slice_get ps (n - 1))) (pages-saved h title text moment) ∙ titles-kept title number h.pages (n - 1) (omega (arith, low, high)))

  pub title-saved : title_at after (page_to_save h title) ≡ title
  title-saved =
      let place = position_or_len (λ (page : Page). title_eq page.title title) h.pages in
      let positive : eqb (place + 1) 0 ≡ false = ne_eqb (place + 1) 0 (λ none. omega (arith, none)) in
      let at : place + 1 - 1 ≡ place = omega arith in
      ap (title_at after) page-place
      ∙ rw (positive, at) (ap (λ (ps : List Page). titled (slice_get ps place)) (pages-saved h title text moment) ∙ title-own title number h.pages)
