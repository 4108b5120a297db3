-- Rows of a list that is numbered from 1, one more at a time.
use Rattle.std.proofs.Common.{◌≡◌, ℕ, suc, ◌+◌, ◌-◌, ◌≤◌, ◌<◌, List, [], ◌∷◌, ◌++◌, length, map, take, cond, eqb, false, Option, Some, None, refl, sym, ap, ap₂, ◌∙◌, arith}
use Rattle.std.specs.List.{enumerate_from, slice_get}
use Rattle.std.specs.Prelude.{flat_map}
use Rattle.std.proofs.lemmas.List.{append-nil, append_assoc, take_more, length-take-le}
use Rattle.std.proofs.lemmas.Bool.{ne_eqb}
use Rattle.std.proofs.lemmas.Option.{get_or_from_slice_get}
use Rattle.wk_page_rules.specs.History.{History}
use Rattle.wk_page_rules.specs.PageRows.{PageRows}
use Rattle.wk_wiki_rules.specs.Tables.{link_rows, rows_of_pages}
use Rattle.wk_table_rules.specs.Changes.{category_row, redirect_row}
use Rattle.std.specs.Option.{option_to_list}
use Rattle.wk_wiki_laws.proofs.TableHistory.{map-push}
use Rattle.wk_wiki_laws.proofs.TableJobs.{got}
use Rattle.wk_wiki_rules.specs.States.{title_at}
use Rattle.wk_tables.specs.LinkLists.{rows_of_lists}
use Rattle.wk_changes.specs.PageLinks.{lists_of_pages, with_more}

taken-length : {X : Type 0} (xs : List X) (i : ℕ) → i ≤ length xs → length (take i xs) ≡ i
taken-length xs i within = length-take-le i xs within

-- ---- a row each

pub rows-more : {X Row : Type 0} (f : ℕ × X → Row) (xs : List X) (i : ℕ) (x : X) → i < length xs → slice_get xs i ≡ Some x
    → map f (enumerate_from 1 (take (i + 1) xs)) ≡ map f (enumerate_from 1 (take i xs)) ++ f (i + 1, x) ∷ []
rows-more f xs i x within at =
    let more : take (i + 1) xs ≡ take i xs ++ x ∷ [] = take_more xs i x within ∙ ap (λ y. take i xs ++ y ∷ []) (get_or_from_slice_get xs i x x at) in
    let len : 1 + length (take i xs) ≡ i + 1 = (let short = taken-length xs i (omega arith) in omega (arith, short)) in
    ap (λ ys. map f (enumerate_from 1 ys)) more
    ∙ (map-push f 1 (take i xs) x ∙ ap (λ n. map f (enumerate_from 1 (take i xs)) ++ f (n, x) ∷ []) len)

-- ---- rows of each page

flat-push : {Row : Type 0} (f : ℕ → PageRows → List Row) (a : ℕ) (stored : List PageRows) (x : PageRows)
    → flat_map (λ (page : ℕ × PageRows). f page.0 page.1) (enumerate_from a (stored ++ x ∷ []))
    ≡ flat_map (λ (page : ℕ × PageRows). f page.0 page.1) (enumerate_from a stored) ++ f (a + length stored) x
flat-push f a [] x =
    let same : a + 0 ≡ a = omega arith in
    append-nil (f a x) ∙ ap (λ n. f n x) (sym same)
flat-push f a (y ∷ stored) x =
    let later = flat-push f (a + 1) stored x in
    let same : a + 1 + length stored ≡ a + suc (length stored) = omega arith in
    ap (λ rows. f a y ++ rows) (later ∙ ap (λ n. flat_map (λ (page : ℕ × PageRows). f page.0 page.1) (enumerate_from (a + 1) stored) ++ f n x) same)
    ∙ sym (append_assoc (f a y) (flat_map (λ (page : ℕ × PageRows). f page.0 page.1) (enumerate_from (a + 1) stored)) (f (a + suc (length stored)) x))

pub pages-more : {Row : Type 0} (f : ℕ → PageRows → List Row) (stored : List PageRows) (i : ℕ) (x : PageRows) → i < length stored → slice_get stored i ≡ Some x
    → rows_of_pages f (take (i + 1) stored) ≡ rows_of_pages f (take i stored) ++ f (i + 1) x
pages-more f stored i x within at =
    let more : take (i + 1) stored ≡ take i stored ++ x ∷ [] = take_more stored i x within ∙ ap (λ y. take i stored ++ y ∷ []) (get_or_from_slice_get stored i x x at) in
    let len : 1 + length (take i stored) ≡ i + 1 = (let short = taken-length stored i (omega arith) in omega (arith, short)) in
    ap (rows_of_pages f) more
    ∙ (flat-push f 1 (take i stored) x ∙ ap (λ n. rows_of_pages f (take i stored) ++ f n x) len)

-- ---- what is found by a number

-- what has this number
abbrev pub numbered : {X : Type 0} → List X → ℕ → Option X
numbered xs number = cond (eqb number 0) None (slice_get xs (number - 1))

pub at-place : {X : Type 0} (xs : List X) (i : ℕ) → numbered xs (i + 1) ≡ slice_get xs i
at-place xs i =
    let more : eqb (i + 1) 0 ≡ false = ne_eqb (i + 1) 0 (λ none. omega (arith, none)) in
    let same : i + 1 - 1 ≡ i = omega arith in
    rw (more, same) refl

pub push-row : {X Row : Type 0} (f : ℕ × X → Row) (xs : List X) (i : ℕ) (rows : List Row) (row : Row) → i < length xs
    → rows ≡ map f (enumerate_from 1 (take i xs))
    → ((x : X) → numbered xs (i + 1) ≡ Some x → row ≡ f (i + 1, x))
    → rows ++ row ∷ [] ≡ map f (enumerate_from 1 (take (i + 1) xs))
push-row f xs i rows row within so_far own =
    let found = got xs i within in
    ap₂ (λ ys y. ys ++ y ∷ []) so_far (own found.0 (at-place xs i ∙ found.1)) ∙ sym (rows-more f xs i found.0 within found.1)

-- ---- the link tables

pub push-page : (h : History) (stored : List PageRows) (i : ℕ) (rows : PageRows) → i < length stored → numbered stored (i + 1) ≡ Some rows
    → with_more (lists_of_pages h (take i stored)) (rows_of_lists (i + 1) (title_at h (i + 1)).ns rows) ≡ lists_of_pages h (take (i + 1) stored)
push-page h stored i rows within is =
    let at : slice_get stored i ≡ Some rows = sym (at-place stored i) ∙ is in
    λ j. record {
      pagelinks = sym (pages-more (link_rows h (λ (rs : PageRows). rs.links)) stored i rows within at) j;
      templatelinks = sym (pages-more (link_rows h (λ (rs : PageRows). rs.templates)) stored i rows within at) j;
      existlinks = sym (pages-more (link_rows h (λ (rs : PageRows). rs.exists)) stored i rows within at) j;
      categorylinks = sym (pages-more (λ page (rs : PageRows). map (category_row page) rs.members) stored i rows within at) j;
      redirects = sym (pages-more (λ page (rs : PageRows). map (redirect_row page) (option_to_list rs.redirect)) stored i rows within at) j;
    }
