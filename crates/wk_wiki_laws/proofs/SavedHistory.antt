-- What a save leaves of the history: the pages of other titles, and what the title's own page is then.
use Rattle.std.proofs.Common.{◌≡◌, ◌≢◌, ℕ, zero, suc, ◌+◌, ◌-◌, ◌≤◌, Bool, true, false, cond, eqb, ltb, List, [], ◌∷◌, ◌++◌, length, map, unwrap_or, Option, Some, None, refl, sym, ap, ◌∙◌, inl, inr, subst, arith, ◌⊎◌}
use Rattle.std.specs.Prelude.{slice_get, find, position, option_map, option_and_then, is_some}
use Rattle.std.specs.List.{AllByRecursion, IsDistinct, position_or_len}
use Rattle.std.proofs.Math.Numerals.{one-add}
use Rattle.std.proofs.lemmas.Bool.{cases_Bool, both_ways, false_from_ne_true, ltb-false, ne_eqb}
use Rattle.wk_text_rules.specs.Titles.{PageTitle, title_eq}
use Rattle.wk_page_rules.specs.History.{History, Page, Revision, current_revision, text_of_revision, with_current, saved}
use Rattle.wk_view_laws.proofs.PlanLemmas.{title_eq-true, title_eq-same}

pub apart-eq : (a b : PageTitle) → a ≢ b → title_eq a b ≡ false
apart-eq a b apart = false_from_ne_true (title_eq a b) (λ same. apart (title_eq-true a b same))

pub eq-apart : (a b : PageTitle) → title_eq a b ≡ false → a ≢ b
eq-apart a b other same = both_ways (title_eq a b) other (subst (λ t. title_eq a t ≡ true) same (title_eq-same a))

abbrev of_title : PageTitle → Page → Bool
of_title title page = title_eq page.title title

abbrev number_in : List Page → PageTitle → ℕ
number_in pages title = unwrap_or (option_map (λ (page : Page). page.current) (find (of_title title) pages)) 0

-- ---- pages

pub number-other : (pages : List Page) (title other : PageTitle) (number : ℕ) → other ≢ title → number_in (with_current pages title number) other ≡ number_in pages other
number-other [] title other number apart = rw (apart-eq title other (λ e. apart (sym e))) refl
number-other (page ∷ pages) title other number apart = elim (cases_Bool (title_eq page.title title)) [
  | inl same ↦
      let not_it : title_eq page.title other ≡ false = apart-eq page.title other (λ e. apart (sym e ∙ title_eq-true page.title title same)) in
      rw (same, not_it) refl
  | inr differs ↦ rw differs (elim (cases_Bool (title_eq page.title other)) [
    | inl first ↦ rw first refl
    | inr later ↦ rw later (number-other pages title other number apart)
  ])
]

pub number-own : (pages : List Page) (title : PageTitle) (number : ℕ) → number_in (with_current pages title number) title ≡ number
number-own [] title number = rw (title_eq-same title) refl
number-own (page ∷ pages) title number = elim (cases_Bool (title_eq page.title title)) [
  | inl same ↦ rw (same, same) refl
  | inr differs ↦ rw (differs, differs) (number-own pages title number)
]

-- a page of another title was there before
pub page-other : (pages : List Page) (title : PageTitle) (number place : ℕ) (page : Page) → slice_get (with_current pages title number) place ≡ Some page → page.title ≢ title → slice_get pages place ≡ Some page
page-other [] title number zero page there apart =
    absurd (let got : Some (record { title = title; current = number }) ≡ Some page = there in let is : record { title = title; current = number } ≡ page = cc in apart (sym (ap (λ (p : Page). p.title) is)))
page-other [] title number (suc place) page there apart = absurd (let e : None ≡ Some page = there in cc)
page-other (first ∷ pages) title number zero page there apart = elim (cases_Bool (title_eq first.title title)) [
  | inl same ↦
      let got : Some (record { title = first.title; current = number }) ≡ Some page = rw same at there in
      let is : record { title = first.title; current = number } ≡ page = cc in
      absurd (apart (sym (ap (λ (p : Page). p.title) is) ∙ title_eq-true first.title title same))
  | inr differs ↦ rw differs at there
]
page-other (first ∷ pages) title number (suc place) page there apart = elim (cases_Bool (title_eq first.title title)) [
  | inl same ↦ rw same at there
  | inr differs ↦ page-other pages title number place page (rw differs at there) apart
]

none-later : (pages : List Page) (first title : PageTitle) (place : ℕ) (page : Page) → AllByRecursion (λ t. title_eq first t ≡ false) (map (λ (p : Page). p.title) pages) → first ≡ title → slice_get pages place ≡ Some page → page.title ≡ title → ⊥
none-later [] first title place page none is there same = let e : None ≡ Some page = there in cc
none-later (p ∷ pages) first title zero page none is there same =
    let got : Some p ≡ Some page = there in
    let one : p ≡ page = cc in
    eq-apart first p.title none.0 (is ∙ sym (ap (λ (q : Page). q.title) one ∙ same))
none-later (p ∷ pages) first title (suc place) page none is there same = none-later pages first title place page none.1 is there same

-- a page of this title has the first place where the title stands, or the end
place-own : (pages : List Page) (title : PageTitle) (number place : ℕ) (page : Page) → IsDistinct title_eq (map (λ (p : Page). p.title) pages) → slice_get (with_current pages title number) place ≡ Some page → page.title ≡ title → position_or_len (of_title title) pages ≡ place
unfolding IsDistinct
place-own [] title number zero page apart there same = refl
place-own [] title number (suc place) page apart there same = absurd (let e : None ≡ Some page = there in cc)
place-own (first ∷ pages) title number zero page apart there same = elim (cases_Bool (title_eq first.title title)) [
  | inl is ↦ rw is refl
  | inr differs ↦
      let got : Some first ≡ Some page = rw differs at there in
      let one : first ≡ page = cc in
      absurd (eq-apart first.title title differs (ap (λ (p : Page). p.title) one ∙ same))
]
place-own (first ∷ pages) title number (suc place) page apart there same = elim (cases_Bool (title_eq first.title title)) [
  | inl is ↦ absurd (none-later pages first.title title place page apart.0 (title_eq-true first.title title is) (rw is at there) same)
  | inr differs ↦ rw (differs, one-add) (ap suc (place-own pages title number place page apart.1 (rw differs at there) same))
]

within-len : (p : Page → Bool) (pages : List Page) → position_or_len p pages ≤ length pages
within-len p [] = omega arith
within-len p (page ∷ pages) = elim (cases_Bool (p page)) [
  | inl here ↦ rw here (omega arith)
  | inr later ↦ rw later (let below = within-len p pages in omega (arith, below))
]

pub number-of-own : (pages : List Page) (title : PageTitle) (number place : ℕ) (page : Page) → IsDistinct title_eq (map (λ (p : Page). p.title) pages) → slice_get (with_current pages title number) place ≡ Some page → page.title ≡ title
    → unwrap_or (option_map (λ at. at + 1) (position (of_title title) pages)) (length pages + 1) ≡ place + 1
number-of-own pages title number place page apart there same =
    let at = place-own pages title number place page apart there same in
    let below = within-len (of_title title) pages in
    elim (cases_Bool (ltb (position_or_len (of_title title) pages) (length pages))) [
      | inl within ↦ rw within (ap (λ n. n + 1) at)
      | inr past ↦
          let not_below = ltb-false (position_or_len (of_title title) pages) (length pages) past in
          let last : length pages ≡ place = omega (arith, below, not_below, at) in
          rw past (ap (λ n. n + 1) last)
    ]

-- ---- revisions

front-at : (revisions : List Revision) (new : Revision) (place : ℕ) → is_some (option_and_then (λ (r : Revision). r.text) (slice_get revisions place)) ≡ true → slice_get (revisions ++ new ∷ []) place ≡ slice_get revisions place
front-at [] new place there = absurd (let e : false ≡ true = there in cc)
front-at (r ∷ revisions) new zero there = refl
front-at (r ∷ revisions) new (suc place) there = front-at revisions new place there

pub last-at : (revisions : List Revision) (new : Revision) → slice_get (revisions ++ new ∷ []) (length revisions) ≡ Some new
last-at [] new = refl
last-at (r ∷ revisions) new = last-at revisions new

-- the number is 0, or that of a revision with a text
abbrev pub Stands : History → ℕ → Type 0
Stands h number = (number ≡ 0) ⊎ (is_some (text_of_revision h number) ≡ true)

pub text-kept : (h : History) (title : PageTitle) (text : Option (List ℕ)) (moment number : ℕ) → Stands h number → text_of_revision (saved h title text moment) number ≡ text_of_revision h number
unfolding saved
text-kept h title text moment number stands = elim (cases_Bool (eqb number 0)) [
  | inl none ↦ rw none refl
  | inr more ↦ elim stands [
    | inl none ↦ rw none refl
    | inr there ↦
        let has : is_some (option_and_then (λ (r : Revision). r.text) (slice_get h.revisions (number - 1))) ≡ true = rw more at there in
        rw more (ap (λ o. option_and_then (λ (r : Revision). r.text) o) (front-at h.revisions (record {
          page = unwrap_or (option_map (λ place. place + 1) (position (λ page. title_eq page.title title) h.pages)) (length h.pages + 1);
          parent = current_revision h title;
          moment = moment;
          text = text;
        }) (number - 1) has))
  ]
]

pub stands-in : (h : History) (other : PageTitle) (pages : List Page) → AllByRecursion (λ (page : Page). Stands h page.current) pages → Stands h (number_in pages other)
stands-in h other [] all = inl refl
stands-in h other (page ∷ pages) all = elim (cases_Bool (title_eq page.title other)) [
  | inl first ↦ rw first all.0
  | inr later ↦ rw later (stands-in h other pages all.1)
]

-- the text that was saved is then the title's own
pub text-own : (h : History) (title : PageTitle) (text : Option (List ℕ)) (moment : ℕ) → text_of_revision (saved h title text moment) (cond (is_some text) (length h.revisions + 1) 0) ≡ text
unfolding saved
text-own h title None moment = refl
text-own h title (Some text) moment =
    let positive : eqb (length h.revisions + 1) 0 ≡ false = ne_eqb (length h.revisions + 1) 0 (λ none. omega (arith, none)) in
    let place : length h.revisions + 1 - 1 ≡ length h.revisions = omega arith in
    rw (positive, place, last-at h.revisions) refl
