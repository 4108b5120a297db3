-- Titles counted one after the other: each stands once, with how often it was counted; and over rows that have each title once, that
-- is how many pages have it.
use Rattle.std.proofs.Common.{◌≡◌, ℕ, ◌+◌, ◌≤◌, Bool, true, false, cond, ◌||◌, List, [], ◌∷◌, ◌++◌, length, map, Some, refl, sym, ap, ◌∙◌, subst, inl, inr, arith}
use Rattle.std.specs.Cmp.{IsEquivalence}
use Rattle.std.specs.List.{AllByRecursion, IsDistinct, flat_map, fold, list_all, list_any}
use Rattle.std.specs.Map.{lookup}
use Rattle.std.specs.Option.{unwrap_or}
use Rattle.std.specs.Ordering.{is_lt}
use Rattle.std.specs.declared.cmp.Ordering.TheVariants.{Equal}
use Rattle.std.proofs.lemmas.Bool.{and_parts, cases_Bool, or_parts}
use Rattle.std.proofs.lemmas.Cmp.{tied_itself}
use Rattle.std.proofs.lemmas.List.{append_assoc, append-nil}
use Rattle.std.proofs.lemmas.List.Concat.{flat_map-cons}
use Rattle.std.proofs.lemmas.List.Folds.{list_any-append}
use Rattle.std.proofs.lemmas.List.Sums.{count_by-le-length, fold-append, sum_by-cons}
use Rattle.std.proofs.lemmas.Map.Keys.{IsDistinct-push}
use Rattle.wk_text_rules.specs.Titles.{PageTitle, title_cmp, title_eq, is_page_title}
use Rattle.wk_page_rules.specs.PageRows.{PageRows}
use Rattle.wk_table_laws.specs.EachGood.{EachGood, GoodAfter}
use Rattle.wk_table_laws.specs.Premises.{is_next_title}
use Rattle.wk_view_laws.proofs.PlanLemmas.{title_eq-same, title_eq-true}
use Rattle.wk_report_rules.specs.Reports.{TitledRows, each_once, pages_with, titles_with}
use Rattle.wk_report_laws.specs.Tally.{tallied, tallied_all}
use Rattle.wk_report_laws.proofs.Sorting.{title_cmp_total}

abbrev weight : Bool → ℕ
weight true = 1
weight false = 0

-- how often a title stands among others
abbrev pub times : List PageTitle → PageTitle → ℕ
times [] title = 0
times (other ∷ titles) title = weight (title_eq title other) + times titles title

-- a title with its count
abbrev pub entry : (PageTitle → ℕ) → PageTitle → PageTitle × ℕ
entry count title = (title, count title)

-- one title more, if it isn't there
abbrev with_title : List PageTitle → PageTitle → List PageTitle
with_title seen title = cond (list_any (title_eq title) seen) seen (seen ++ title ∷ [])

title_eq-back : (a b : PageTitle) → title_eq a b ≡ title_eq b a
title_eq-back a b = by (title_eq a b) (title_eq b a) refl refl
  where
    by : (ab ba : Bool) → title_eq a b ≡ ab → title_eq b a ≡ ba → ab ≡ ba
    by true true e f = refl
    by false false e f = refl
    by true false e f = sym (subst (λ (t : PageTitle). title_eq t a ≡ true) (title_eq-true a b e) (title_eq-same a)) ∙ f
    by false true e f = sym e ∙ subst (λ (t : PageTitle). title_eq t b ≡ true) (title_eq-true b a f) (title_eq-same b)

title_eq-equiv : IsEquivalence title_eq
title_eq-equiv = record {
  refl = title_eq-same;
  symm = title_eq-back;
  congr = λ x y z e. ap (λ (t : PageTitle). title_eq t z) (title_eq-true x y e);
}

-- ---- one title more

weight-is : (b : Bool) → cond b 1 0 ≡ weight b
weight-is true = refl
weight-is false = refl

times-next : (done : List PageTitle) (x t : PageTitle) → times (done ++ x ∷ []) t ≡ times done t + weight (title_eq t x)
times-next [] x t = by (title_eq t x)
  where
    by : (b : Bool) → weight b + 0 ≡ 0 + weight b
    by true = refl
    by false = refl
times-next (y ∷ done) x t =
    let later = times-next done x t in omega (arith, later)

times-append : (xs ys : List PageTitle) (t : PageTitle) → times (xs ++ ys) t ≡ times xs t + times ys t
times-append [] ys t = omega arith
times-append (x ∷ xs) ys t = let later = times-append xs ys t in omega (arith, later)

times-none : (titles : List PageTitle) (t : PageTitle) → list_any (title_eq t) titles ≡ false → times titles t ≡ 0
times-none [] t none = refl
times-none (x ∷ titles) t none =
    let parts = or_parts (title_eq t x) (list_any (title_eq t) titles) none in
    let own : weight (title_eq t x) ≡ 0 = ap weight parts.0 in
    let later : times titles t ≡ 0 = times-none titles t parts.1 in
    omega (arith, own, later)

-- a title that is there: its count is one more
counted-there : (done : List PageTitle) (x : PageTitle) (ks : List PageTitle) → IsDistinct title_eq ks → list_any (title_eq x) ks ≡ true
    → tallied (map (entry (times done)) ks) x ≡ map (entry (times (done ++ x ∷ []))) ks
unfolding IsDistinct
counted-there done x [] apart there = absurd (let e : false ≡ true = there in cc)
counted-there done x (k ∷ ks) apart there = by (title_eq x k) refl (λ within. counted-there done x ks apart.1 within)
  where
    others : (rest : List PageTitle) → AllByRecursion (λ y. title_eq k y ≡ false) rest → x ≡ k → map (entry (times done)) rest ≡ map (entry (times (done ++ x ∷ []))) rest
    others [] all is = refl
    others (y ∷ rest) all is =
        let other : title_eq y x ≡ false = title_eq-back y x ∙ (ap (λ (t : PageTitle). title_eq t y) is ∙ all.0) in
        let same : times done y ≡ times (done ++ x ∷ []) y = let next = times-next done x y in let none : weight (title_eq y x) ≡ 0 = ap weight other in omega (arith, next, none) in
        let later = others rest all.1 is in
        λ i. (y, same i) ∷ later i

    by : (b : Bool) → title_eq x k ≡ b
        → (list_any (title_eq x) ks ≡ true → tallied (map (entry (times done)) ks) x ≡ map (entry (times (done ++ x ∷ []))) ks)
        → cond b ((k, times done k + 1) ∷ map (entry (times done)) ks) ((k, times done k) ∷ tallied (map (entry (times done)) ks) x) ≡ (k, times (done ++ x ∷ []) k) ∷ map (entry (times (done ++ x ∷ []))) ks
    by true is rest =
        let own : weight (title_eq k x) ≡ 1 = ap weight (title_eq-back k x ∙ is) in
        let next = times-next done x k in
        let same : times done k + 1 ≡ times (done ++ x ∷ []) k = omega (arith, next, own) in
        let later = others ks apart.0 (title_eq-true x k is) in
        λ i. (k, same i) ∷ later i
    by false is rest =
        let own : weight (title_eq k x) ≡ 0 = ap weight (title_eq-back k x ∙ is) in
        let next = times-next done x k in
        let same : times done k ≡ times (done ++ x ∷ []) k = omega (arith, next, own) in
        let within : list_any (title_eq x) ks ≡ true = rw is at there in
        let later = rest within in
        λ i. (k, same i) ∷ later i

-- a title that isn't there goes to the end
counted-new : (done : List PageTitle) (x : PageTitle) (ks : List PageTitle) → times done x ≡ 0 → list_any (title_eq x) ks ≡ false
    → tallied (map (entry (times done)) ks) x ≡ map (entry (times (done ++ x ∷ []))) (ks ++ x ∷ [])
counted-new done x [] none new =
    let next = times-next done x x in
    let own : weight (title_eq x x) ≡ 1 = ap weight (title_eq-same x) in
    let same : 1 ≡ times (done ++ x ∷ []) x = omega (arith, next, own, none) in
    λ i. (x, same i) ∷ []
counted-new done x (k ∷ ks) none new =
    let parts = or_parts (title_eq x k) (list_any (title_eq x) ks) new in
    let own : weight (title_eq k x) ≡ 0 = ap weight (title_eq-back k x ∙ parts.0) in
    let next = times-next done x k in
    let same : times done k ≡ times (done ++ x ∷ []) k = omega (arith, next, own) in
    let later = counted-new done x ks none parts.1 in
    rw parts.0 (λ i. (k, same i) ∷ later i)

-- ---- all titles

once-next : (done : List PageTitle) (x : PageTitle) → each_once (done ++ x ∷ []) ≡ with_title (each_once done) x
once-next done x = fold-append with_title [] done (x ∷ [])

any-once : (done : List PageTitle) (x : PageTitle) → (more : List PageTitle) (seen : List PageTitle) → list_any (title_eq x) seen ≡ list_any (title_eq x) done
    → list_any (title_eq x) (fold with_title seen more) ≡ list_any (title_eq x) (done ++ more)
any-once done x [] seen same = rw (append-nil done) same
any-once done x (y ∷ more) seen same =
    let next : list_any (title_eq x) (with_title seen y) ≡ list_any (title_eq x) (done ++ y ∷ []) = step (list_any (title_eq y) seen) refl in
    any-once (done ++ y ∷ []) x more (with_title seen y) next ∙ ap (list_any (title_eq x)) (append_assoc done (y ∷ []) more)
  where
    step : (b : Bool) → list_any (title_eq y) seen ≡ b → list_any (title_eq x) (cond b seen (seen ++ y ∷ [])) ≡ list_any (title_eq x) (done ++ y ∷ [])
    step false is = list_any-append (title_eq x) seen (y ∷ []) ∙ (ap (λ b. b || (title_eq x y || false)) same ∙ sym (list_any-append (title_eq x) done (y ∷ [])))
    step true is = elim (cases_Bool (title_eq x y)) [
      | inl own ↦
          let here : list_any (title_eq x) seen ≡ true = subst (λ (t : PageTitle). list_any (title_eq t) seen ≡ true) (sym (title_eq-true x y own)) is in
          here ∙ sym (list_any-append (title_eq x) done (y ∷ []) ∙ ap (λ b. b || (title_eq x y || false)) (sym same ∙ here))
      | inr other ↦ same ∙ (sym (or-false (list_any (title_eq x) done)) ∙ (ap (λ b. list_any (title_eq x) done || (b || false)) (sym other) ∙ sym (list_any-append (title_eq x) done (y ∷ []))))
    ]
      where
        or-false : (b : Bool) → (b || (false || false)) ≡ b
        or-false true = refl
        or-false false = refl

once-apart : (titles seen : List PageTitle) → IsDistinct title_eq seen → IsDistinct title_eq (fold with_title seen titles)
once-apart [] seen apart = apart
once-apart (x ∷ titles) seen apart = once-apart titles (with_title seen x) (step (list_any (title_eq x) seen) refl)
  where
    step : (b : Bool) → list_any (title_eq x) seen ≡ b → IsDistinct title_eq (cond b seen (seen ++ x ∷ []))
    step true is = apart
    step false is = IsDistinct-push title_eq-equiv seen x apart is

no-title-apart : IsDistinct title_eq []
unfolding IsDistinct
no-title-apart = tt

tally-next : (done : List PageTitle) (x : PageTitle) → tallied (map (entry (times done)) (each_once done)) x ≡ map (entry (times (done ++ x ∷ []))) (each_once (done ++ x ∷ []))
tally-next done x = rw (once-next done x) (by (list_any (title_eq x) (each_once done)) refl)
  where
    by : (b : Bool) → list_any (title_eq x) (each_once done) ≡ b
        → tallied (map (entry (times done)) (each_once done)) x ≡ map (entry (times (done ++ x ∷ []))) (cond b (each_once done) (each_once done ++ x ∷ []))
    by true there = counted-there done x (each_once done) (once-apart done [] no-title-apart) there
    by false new = counted-new done x (each_once done) (times-none done x (sym (any-once [] x done [] refl) ∙ new)) new

tally-from : (titles done : List PageTitle) → tallied_all (map (entry (times done)) (each_once done)) titles ≡ map (entry (times (done ++ titles))) (each_once (done ++ titles))
tally-from [] done = rw (append-nil done) refl
tally-from (x ∷ titles) done =
    ap (λ entries. tallied_all entries titles) (tally-next done x)
    ∙ (tally-from titles (done ++ x ∷ []) ∙ ap (λ all. map (entry (times all)) (each_once all)) (append_assoc done (x ∷ []) titles))

-- each title once, with how often it was counted
pub tally : (titles : List PageTitle) → tallied_all [] titles ≡ map (entry (times titles)) (each_once titles)
tally titles = tally-from titles []

-- ---- rows that have each title once

same-less : (a b : PageTitle) → is_lt (title_cmp a b) ≡ true → title_eq a b ≡ false
same-less a b less = elim (cases_Bool (title_eq a b)) [
  | inr other ↦ other
  | inl same ↦ absurd (let e : false ≡ true = sym (ap is_lt (subst (λ (t : PageTitle). title_cmp a t ≡ Equal) (title_eq-true a b same) (tied_itself title_cmp_total a))) ∙ less in cc)
]

all-less : (before : List PageTitle) (y t : PageTitle) → list_all (λ earlier. is_lt (title_cmp earlier y)) before ≡ true → list_any (title_eq t) before ≡ true → title_eq t y ≡ false
all-less [] y t all there = absurd (let e : false ≡ true = there in cc)
all-less (x ∷ before) y t all there =
    let parts = and_parts (is_lt (title_cmp x y)) (list_all (λ earlier. is_lt (title_cmp earlier y)) before) all in
    elim (cases_Bool (title_eq t x)) [
      | inl own ↦ subst (λ (s : PageTitle). title_eq s y ≡ false) (sym (title_eq-true t x own)) (same-less x y parts.0)
      | inr other ↦ all-less before y t parts.1 (rw other at there)
    ]

next-parts : (before : List PageTitle) (y : PageTitle) → is_next_title before y ≡ true → list_all (λ earlier. is_lt (title_cmp earlier y)) before ≡ true
next-parts before y good = (and_parts (is_page_title y) (list_all (λ earlier. is_lt (title_cmp earlier y)) before) good).1

any-next : (before : List PageTitle) (y t : PageTitle) → list_any (title_eq t) before ≡ true → list_any (title_eq t) (before ++ y ∷ []) ≡ true
any-next before y t there = list_any-append (title_eq t) before (y ∷ []) ∙ ap (λ b. b || (title_eq t y || false)) there

any-last : (before : List PageTitle) (y t : PageTitle) → title_eq t y ≡ true → list_any (title_eq t) (before ++ y ∷ []) ≡ true
any-last before y t own = list_any-append (title_eq t) before (y ∷ []) ∙ (ap (λ b. list_any (title_eq t) before || (b || false)) own ∙ or-true (list_any (title_eq t) before))
  where
    or-true : (b : Bool) → (b || (true || false)) ≡ true
    or-true true = refl
    or-true false = refl

none-behind : (before ys : List PageTitle) (t : PageTitle) → GoodAfter is_next_title before ys → list_any (title_eq t) before ≡ true → times ys t ≡ 0
none-behind before [] t good there = refl
none-behind before (y ∷ ys) t good there =
    let other : weight (title_eq t y) ≡ 0 = ap weight (all-less before y t (next-parts before y good.0) there) in
    let later : times ys t ≡ 0 = none-behind (before ++ y ∷ []) ys t good.1 (any-next before y t there) in
    omega (arith, other, later)

-- rows in title order have a title once or not at all
once-or-none : (before ys : List PageTitle) (t : PageTitle) → GoodAfter is_next_title before ys → times ys t ≡ weight (list_any (title_eq t) ys)
once-or-none before [] t good = refl
once-or-none before (y ∷ ys) t good =
    by (title_eq t y) refl (λ own. none-behind (before ++ y ∷ []) ys t good.1 (any-last before y t own)) (once-or-none (before ++ y ∷ []) ys t good.1)
  where
    by : (b : Bool) → title_eq t y ≡ b → (title_eq t y ≡ true → times ys t ≡ 0) → times ys t ≡ weight (list_any (title_eq t) ys) → weight b + times ys t ≡ weight (b || list_any (title_eq t) ys)
    by true own none later = let zero : times ys t ≡ 0 = none own in omega (arith, zero)
    by false other none later = omega (arith, later)

-- each page's rows have these titles in order
abbrev pub InOrder : (PageRows → List PageTitle) → List TitledRows → Type 0
InOrder titles_of pages = AllByRecursion (λ (page : TitledRows). EachGood is_next_title (titles_of page.rows)) pages

pub times-pages : (titles_of : PageRows → List PageTitle) (pages : List TitledRows) (t : PageTitle) → InOrder titles_of pages
    → times (flat_map (λ (page : TitledRows). titles_of page.rows) pages) t ≡ pages_with titles_of pages t
times-pages titles_of [] t good = refl
times-pages titles_of (page ∷ pages) t good =
    let all = λ (page : TitledRows). titles_of page.rows in
    let here = once-or-none [] (titles_of page.rows) t good.0 in
    let later = times-pages titles_of pages t good.1 in
    ap (λ titles. times titles t) (flat_map-cons all page pages)
    ∙ (times-append (titles_of page.rows) (flat_map all pages) t ∙ (ap (λ n. n + times (flat_map all pages) t) here
    ∙ (ap (λ n. weight (list_any (title_eq t) (titles_of page.rows)) + n) later
    ∙ sym (sum_by-cons (λ (page : TitledRows). cond (list_any (title_eq t) (titles_of page.rows)) 1 0) page pages
    ∙ ap (λ n. n + pages_with titles_of pages t) (weight-is (list_any (title_eq t) (titles_of page.rows)))))))

-- all titles of all pages, each with how many pages have it
pub tally-pages : (titles_of : PageRows → List PageTitle) (pages : List TitledRows) → InOrder titles_of pages
    → tallied_all [] (flat_map (λ (page : TitledRows). titles_of page.rows) pages) ≡ map (entry (pages_with titles_of pages)) (titles_with titles_of pages)
tally-pages titles_of pages good =
    tally (flat_map (λ (page : TitledRows). titles_of page.rows) pages) ∙ same (titles_with titles_of pages)
  where
    same : (ks : List PageTitle) → map (entry (times (flat_map (λ (page : TitledRows). titles_of page.rows) pages))) ks ≡ map (entry (pages_with titles_of pages)) ks
    same [] = refl
    same (k ∷ ks) = let here = times-pages titles_of pages k good in let later = same ks in λ i. (k, here i) ∷ later i

-- ---- counts are small

small-entry : (count : PageTitle → ℕ) (most : ℕ) → ((t : PageTitle) → count t ≤ most) → (ks : List PageTitle) (t : PageTitle)
    → unwrap_or (lookup (title_eq t) (map (entry count) ks)) 0 ≤ most
small-entry count most small [] t = omega arith
small-entry count most small (k ∷ ks) t = by (title_eq t k) (small-entry count most small ks t)
  where
    by : (b : Bool) → unwrap_or (lookup (title_eq t) (map (entry count) ks)) 0 ≤ most → unwrap_or (cond b (Some (count k)) (lookup (title_eq t) (map (entry count) ks))) 0 ≤ most
    by true later = small k
    by false later = later

-- no title is counted more often than there are pages
pub small-tally : (titles_of : PageRows → List PageTitle) (pages : List TitledRows) (most : ℕ) → InOrder titles_of pages → length pages ≤ most
    → (t : PageTitle) → unwrap_or (lookup (title_eq t) (tallied_all [] (flat_map (λ (page : TitledRows). titles_of page.rows) pages))) 0 ≤ most
small-tally titles_of pages most good few t =
    rw (tally-pages titles_of pages good)
    (small-entry (pages_with titles_of pages) most
    (λ t. let at_most = count_by-le-length (λ (page : TitledRows). list_any (title_eq t) (titles_of page.rows)) pages in omega (arith, at_most, few))
    (titles_with titles_of pages) t)
