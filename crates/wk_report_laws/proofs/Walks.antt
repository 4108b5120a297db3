-- Pages that are gone over one after the other, and what each gives.
use Rattle.std.proofs.Common.{◌≡◌, ℕ, zero, suc, ◌+◌, ◌-◌, ◌≤◌, ◌<◌, ltb, Bool, true, false, cond, eqb, not, ◌&&◌, ◌||◌, List, [], ◌∷◌, ◌++◌, length, map, take, Option, Some, None, refl, sym, ap, ◌∙◌, subst, inl, inr, arith}
use Rattle.std.specs.List.{AllByRecursion, cons_option, enumerate_from, filter_map, find, flat_map, list_any, position_or_len}
use Rattle.std.specs.Option.{option_and_then, option_map, option_to_list, unwrap_or}
use Rattle.std.specs.Prelude.{filter, slice_get}
use Rattle.std.proofs.lemmas.Bool.{cases_Bool, ltb-false, ltb-true, ne_eqb}
use Rattle.std.proofs.lemmas.List.Folds.{find_at}
use Rattle.std.proofs.lemmas.Option.{slice_get_past}
use Rattle.std.proofs.lemmas.List.{append-nil, append_assoc, take_all}
use Rattle.wk_text_rules.specs.Titles.{PageTitle, title_eq}
use Rattle.wk_page_rules.specs.History.{Page, page_number}
use Rattle.wk_page_rules.specs.PageRows.{PageRows, no_rows}
use Rattle.wk_table_laws.specs.EachGood.{EachGood}
use Rattle.wk_table_laws.specs.Premises.{is_next_title}
use Rattle.wk_wiki_rules.specs.States.{State, page_at, stored_at}
use Rattle.wk_wiki_laws.specs.Kept.{AreGoodRows}
use Rattle.wk_report_rules.specs.Pages.{page_stored, stored_pages}
use Rattle.wk_report_rules.specs.Reports.{Line, TitledRows, is_named_elsewhere, redirect_of}
use Rattle.wk_report_laws.proofs.Tallies.{InOrder, entry}

-- ---- what each item gives

-- one item more
pub walk-next : {X Y : Type 0} (f : X → List Y) (xs : List X) (place : ℕ) (x : X) → slice_get xs place ≡ Some x → flat_map f (take (place + 1) xs) ≡ flat_map f (take place xs) ++ f x
walk-next {X = X} f xs place x there = let next : place + 1 ≡ suc place = omega arith in rw next (go xs place there)
  where
    go : (xs : List X) (place : ℕ) → slice_get xs place ≡ Some x → flat_map f (take (suc place) xs) ≡ flat_map f (take place xs) ++ f x
    go [] place there = absurd (let e : None ≡ Some x = there in cc)
    go (y ∷ xs) zero there = let e : Some y ≡ Some x = there in let is : y ≡ x = cc in append-nil (f y) ∙ ap f is
    go (y ∷ xs) (suc place) there = ap (λ later. f y ++ later) (go xs place there) ∙ sym (append_assoc (f y) (flat_map f (take place xs)) (f x))

pub walk-whole : {X Y : Type 0} (f : X → List Y) (xs : List X) (place : ℕ) → length xs ≤ place → flat_map f (take place xs) ≡ flat_map f xs
walk-whole f xs place past = ap (flat_map f) (take_all place xs past)

-- a line, or none
abbrev pub lines_if : {X : Type 0} → (X → Bool) → (X → Line) → X → List Line
lines_if test line x = cond (test x) (line x ∷ []) []

pub walk-filter : {X : Type 0} (test : X → Bool) (line : X → Line) (xs : List X) → flat_map (lines_if test line) xs ≡ map line (filter test xs)
walk-filter test line [] = refl
walk-filter test line (x ∷ xs) = by (test x) (walk-filter test line xs)
  where
    by : (b : Bool) → flat_map (lines_if test line) xs ≡ map line (filter test xs) → cond b (line x ∷ []) [] ++ flat_map (lines_if test line) xs ≡ map line (cond b (x ∷ filter test xs) (filter test xs))
    by true later = ap (λ (lines : List Line). line x ∷ lines) later
    by false later = later

pub walk-filter_map : {X : Type 0} (line : X → Option Line) (xs : List X) → flat_map (λ x. option_to_list (line x)) xs ≡ filter_map line xs
walk-filter_map line [] = refl
walk-filter_map line (x ∷ xs) = by (line x) (walk-filter_map line xs)
  where
    by : (o : Option Line) → flat_map (λ x. option_to_list (line x)) xs ≡ filter_map line xs → option_to_list o ++ flat_map (λ x. option_to_list (line x)) xs ≡ cons_option o (filter_map line xs)
    by None later = later
    by (Some l) later = ap (λ (lines : List Line). l ∷ lines) later

-- the line of a title that was counted
abbrev pub entry_line : PageTitle × ℕ → Line
entry_line e = record { count = e.1; titles = e.0 ∷ [] }

-- the lines of titles that were counted, of those that pass a test
pub walk-entries : (test : PageTitle → Bool) (count : PageTitle → ℕ) (ks : List PageTitle)
    → flat_map (lines_if (λ (e : PageTitle × ℕ). test e.0) entry_line) (map (entry count) ks) ≡ map (λ k. entry_line (entry count k)) (filter test ks)
walk-entries test count [] = refl
walk-entries test count (k ∷ ks) = by (test k) (walk-entries test count ks)
  where
    by : (b : Bool) → flat_map (lines_if (λ (e : PageTitle × ℕ). test e.0) entry_line) (map (entry count) ks) ≡ map (λ k. entry_line (entry count k)) (filter test ks)
        → cond b (entry_line (entry count k) ∷ []) [] ++ flat_map (lines_if (λ (e : PageTitle × ℕ). test e.0) entry_line) (map (entry count) ks) ≡ map (λ k. entry_line (entry count k)) (cond b (k ∷ filter test ks) (filter test ks))
    by true later = ap (λ (lines : List Line). entry_line (entry count k) ∷ lines) later
    by false later = later

pub filter-all : (ks : List PageTitle) → filter (λ (k : PageTitle). true) ks ≡ ks
filter-all [] = refl
filter-all (k ∷ ks) = ap (λ later. k ∷ later) (filter-all ks)

-- ---- the pages of a state with their stored rows

pub stored-length : (state : State) → length (stored_pages state) ≡ length state.history.pages
stored-length state = go state.history.pages 1
  where
    go : (pages : List Page) (n : ℕ) → length (map (page_stored state) (enumerate_from n pages)) ≡ length pages
    go [] n = refl
    go (page ∷ pages) n = ap suc (go pages (n + 1))

pub stored-there : (state : State) (place : ℕ) (page : Page) → page_at state.history (place + 1) ≡ Some page → slice_get (stored_pages state) place ≡ Some (page_stored state (place + 1, page))
stored-there state place page there =
    let positive : eqb (place + 1) 0 ≡ false = ne_eqb (place + 1) 0 (λ e. omega (arith, e)) in
    let at : place + 1 - 1 ≡ place = omega arith in
    let got : slice_get state.history.pages place ≡ Some page = rw (positive, at) at there in
    go state.history.pages 1 place got ∙ ap (λ (n : ℕ). Some (page_stored state (n, page))) (let same : 1 + place ≡ place + 1 = omega arith in same)
  where
    go : (pages : List Page) (n k : ℕ) → slice_get pages k ≡ Some page → slice_get (map (page_stored state) (enumerate_from n pages)) k ≡ Some (page_stored state (n + k, page))
    go [] n k is = absurd (let e : None ≡ Some page = is in cc)
    go (p ∷ pages) n zero is =
        let e : Some p ≡ Some page = is in
        let same : p ≡ page = cc in
        ap (λ (q : Page). Some (page_stored state (n, q))) same ∙ ap (λ (m : ℕ). Some (page_stored state (m, page))) (let whole : n ≡ n + 0 = omega arith in whole)
    go (p ∷ pages) n (suc k) is =
        go pages (n + 1) k is ∙ ap (λ (m : ℕ). Some (page_stored state (m, page))) (let same : n + 1 + k ≡ n + suc k = omega arith in same)

-- ---- redirects

abbrev is_titled : PageTitle → Page → Bool
is_titled title page = title_eq page.title title

abbrev is_stored : PageTitle → TitledRows → Bool
is_stored title page = title_eq page.title title

same-place : (state : State) (title : PageTitle) (pages : List Page) (n : ℕ)
    → position_or_len (is_stored title) (map (page_stored state) (enumerate_from n pages)) ≡ position_or_len (is_titled title) pages
same-place state title [] n = refl
same-place state title (page ∷ pages) n = by (title_eq page.title title) (same-place state title pages (n + 1))
  where
    by : (b : Bool) → position_or_len (is_stored title) (map (page_stored state) (enumerate_from (n + 1) pages)) ≡ position_or_len (is_titled title) pages
        → cond (not b) (1 + position_or_len (is_stored title) (map (page_stored state) (enumerate_from (n + 1) pages))) 0 ≡ cond (not b) (1 + position_or_len (is_titled title) pages) 0
    by true later = refl
    by false later = ap (λ k. 1 + k) later

found-place : (state : State) (title : PageTitle) → find (is_stored title) (stored_pages state) ≡ slice_get (stored_pages state) (position_or_len (is_titled title) state.history.pages)
found-place state title =
    find_at (is_stored title) (stored_pages state) ∙ ap (slice_get (stored_pages state)) (same-place state title state.history.pages 1)

page-in : (pages : List Page) (k : ℕ) → k < length pages → (page : Page) × (slice_get pages k ≡ Some page)
page-in [] k within = absurd (omega (arith, within))
page-in (page ∷ pages) zero within = (page, refl)
page-in (page ∷ pages) (suc k) within = page-in pages k (omega (arith, within))

-- the title of a page that is there
pub redirect-found : (state : State) (title : PageTitle) (number : ℕ) → page_number state.history title ≡ Some number → redirect_of (stored_pages state) title ≡ (stored_at state number).redirect
redirect-found state title number is = elim (cases_Bool (ltb place (length state.history.pages))) [
  | inl within ↦
      let page = page-in state.history.pages place (ltb-true place (length state.history.pages) within) in
      let same : Some (place + 1) ≡ Some number = subst (λ b. option_map (λ place. place + 1) (cond b (Some place) None) ≡ Some number) within is in
      let number_is : place + 1 ≡ number = cc in
      let positive : eqb (place + 1) 0 ≡ false = ne_eqb (place + 1) 0 (λ e. omega (arith, e)) in
      let at : place + 1 - 1 ≡ place = omega arith in
      let there : page_at state.history (place + 1) ≡ Some page.0 = rw (positive, at) page.1 in
      ap (option_and_then (λ (page : TitledRows). page.rows.redirect)) (found-place state title ∙ stored-there state place page.0 there)
      ∙ ap (λ (n : ℕ). (stored_at state n).redirect) number_is
  | inr past ↦ absurd (let e : None ≡ Some number = subst (λ b. option_map (λ place. place + 1) (cond b (Some place) None) ≡ Some number) past is in cc)
]
  where
    place : ℕ
    place = position_or_len (is_titled title) state.history.pages

-- the title of no page
pub redirect-none : (state : State) (title : PageTitle) → page_number state.history title ≡ None → redirect_of (stored_pages state) title ≡ None
redirect-none state title is = elim (cases_Bool (ltb place (length state.history.pages))) [
  | inl within ↦ absurd (let e : Some (place + 1) ≡ None = subst (λ b. option_map (λ place. place + 1) (cond b (Some place) None) ≡ None) within is in cc)
  | inr past ↦
      let behind : length (stored_pages state) ≤ place = rw (stored-length state) (ltb-false place (length state.history.pages) past) in
      ap (option_and_then (λ (page : TitledRows). page.rows.redirect)) (found-place state title ∙ slice_get_past (stored_pages state) place behind)
]
  where
    place : ℕ
    place = position_or_len (is_titled title) state.history.pages

-- ---- rows that are in order

no-rows-good : AreGoodRows no_rows
no-rows-good = record { templates = tt; exists = tt; links = tt; members = tt; categories = tt; redirect = tt }

stored-good : (state : State) → AllByRecursion AreGoodRows state.stored → (number : ℕ) → AreGoodRows (stored_at state number)
stored-good state good number = by (eqb number 0)
  where
    at : (rows : List PageRows) → AllByRecursion AreGoodRows rows → (k : ℕ) → AreGoodRows (unwrap_or (slice_get rows k) no_rows)
    at [] all k = no-rows-good
    at (r ∷ rows) all zero = all.0
    at (r ∷ rows) all (suc k) = at rows all.1 k

    by : (b : Bool) → AreGoodRows (cond b no_rows (unwrap_or (slice_get state.stored (number - 1)) no_rows))
    by true = no-rows-good
    by false = at state.stored good (number - 1)

pub stored-in_order : (titles_of : PageRows → List PageTitle) → ((rows : PageRows) → AreGoodRows rows → EachGood is_next_title (titles_of rows)) → (state : State) → AllByRecursion AreGoodRows state.stored
    → InOrder titles_of (stored_pages state)
stored-in_order titles_of each state good = go state.history.pages 1
  where
    go : (pages : List Page) (n : ℕ) → InOrder titles_of (map (page_stored state) (enumerate_from n pages))
    go [] n = tt
    go (page ∷ pages) n = (each (stored_at state n) (stored-good state good n), go pages (n + 1))

pub in_order-take : (titles_of : PageRows → List PageTitle) (pages : List TitledRows) (k : ℕ) → InOrder titles_of pages → InOrder titles_of (take k pages)
in_order-take titles_of [] k good = rw (take-nil k) tt
  where
    take-nil : (k : ℕ) → take k (let none : List TitledRows = [] in none) ≡ []
    take-nil zero = refl
    take-nil (suc k) = refl
in_order-take titles_of (page ∷ pages) zero good = tt
in_order-take titles_of (page ∷ pages) (suc k) good = (good.0, in_order-take titles_of pages k good.1)

-- ---- titles that other pages name

-- what a page more makes of it
pub named-next : (pages : List TitledRows) (place : ℕ) (page : TitledRows) (title : PageTitle) → slice_get pages place ≡ Some page
    → is_named_elsewhere (take (place + 1) pages) title
    ≡ (is_named_elsewhere (take place pages) title || (not (title_eq page.title title) && (list_any (title_eq title) page.rows.links || list_any (title_eq title) page.rows.templates)))
named-next pages place page title there = let next : place + 1 ≡ suc place = omega arith in rw next (go pages place there)
  where
    here : TitledRows → Bool
    here page = not (title_eq page.title title) && (list_any (title_eq title) page.rows.links || list_any (title_eq title) page.rows.templates)

    or-false : (b : Bool) → (b || false) ≡ (false || b)
    or-false true = refl
    or-false false = refl

    or-again : (a b c : Bool) → (a || (b || c)) ≡ ((a || b) || c)
    or-again true b c = refl
    or-again false b c = refl

    go : (pages : List TitledRows) (place : ℕ) → slice_get pages place ≡ Some page → list_any here (take (suc place) pages) ≡ (list_any here (take place pages) || here page)
    go [] place is = absurd (let e : None ≡ Some page = is in cc)
    go (p ∷ pages) zero is = let e : Some p ≡ Some page = is in let same : p ≡ page = cc in or-false (here p) ∙ ap (λ q. false || here q) same
    go (p ∷ pages) (suc place) is = ap (λ b. here p || b) (go pages place is) ∙ or-again (here p) (list_any here (take place pages)) (here page)
