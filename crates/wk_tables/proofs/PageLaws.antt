-- The rows of the table page, and their numbers.
use Rattle.std.proofs.Common.{◌≡◌, ℕ, zero, suc, ◌<◌, Bool, true, false, eqb, ltb, ◌||◌, List, [], ◌∷◌, ◌++◌, length, get_or, map, set, Option, Some, None, refl, sym, ap, ◌∙◌, subst, arith}
use Rattle.std.specs.Prelude.{◌≤◌, IfSome, IsSome, option_map, find}
use Rattle.std.specs.Option.{option_to_list}
use Rattle.std.specs.List.{All, list_all, list_any, position}
use Rattle.std.proofs.lemmas.Bool.{and_parts, eqb-true, ltb-true}
use Rattle.std.proofs.lemmas.List.{map-append}
use Rattle.std.proofs.lemmas.List.Elements.{All-map}
use Rattle.std.proofs.lemmas.List.Quantifiers.{all_pairs_push, position-Some}
use Rattle.wk_table_rules.specs.Rows.{CategoryColumns, LinkColumns, PageColumns, RedirectColumns}
use Rattle.wk_table_rows.specs.Rising.{IsRising}
use Rattle.wk_tables.specs.LinkLists.{LinkLists}
use Rattle.wk_tables.specs.Links.{ArePagesOf, EachPages, PagesHeld, map_pages}
use Rattle.wk_table_rows.proofs.FirstPlace.{position-None}
use Rattle.wk_table_rows.proofs.NumberLaws.{any-found, list_any-none, map-same, position-map}
use Rattle.wk_table_rows.proofs.RisingLaws.{IsRising-set}

-- ---- pages

list_all-at : {X : Type 0} (p : X → Bool) (xs : List X) → list_all p xs ≡ true → (k : ℕ) (d : X) → k < length xs → p (get_or xs k d) ≡ true
list_all-at p [] all k d inside = absurd (omega arith)
list_all-at p (x ∷ xs) all zero d inside = (and_parts (p x) (list_all p xs) all).0
list_all-at p (x ∷ xs) all (suc k) d inside = list_all-at p xs (and_parts (p x) (list_all p xs) all).1 k d (omega arith)

or-other : (a b : Bool) → a ≡ false → (a || b) ≡ true → b ≡ true
or-other true b not_a either = absurd (let no : true ≡ false = not_a in cc)
or-other false b not_a either = either

-- a page that is added is above all
pub added-above : (pages : List PageColumns) (id : ℕ)
    → (list_any (λ page. eqb page.page_id id) pages || list_all (λ page. ltb page.page_id id) pages) ≡ true → None ≡ position (λ page. eqb page.page_id id) pages
    → All (λ page. page.page_id < id) pages
added-above pages id fits none =
    let absent : list_any (λ page. eqb page.page_id id) pages ≡ false = list_any-none (λ page. eqb page.page_id id) pages (position-None (λ page. eqb page.page_id id) pages (sym none)) in
    let all = or-other (list_any (λ page. eqb page.page_id id) pages) (list_all (λ page. ltb page.page_id id) pages) absent fits in
    λ k d l. ltb-true (get_or pages k d).page_id id (list_all-at (λ page. ltb page.page_id id) pages all k d l)

pub rises-added : (pages : List PageColumns) (page : PageColumns) → All (λ earlier. earlier.page_id < page.page_id) pages
    → IsRising (λ p. p.page_id) pages → IsRising (λ p. p.page_id) (pages ++ page ∷ [])
rises-added pages page above rising = all_pairs_push (λ a b. a.page_id < b.page_id) pages page rising above

pub rises-renewed : (pages : List PageColumns) (k : ℕ) (page : PageColumns) → Some k ≡ position (λ p. eqb p.page_id page.page_id) pages
    → IsRising (λ p. p.page_id) pages → IsRising (λ p. p.page_id) (set pages k page)
rises-renewed pages k page found rising =
    IsRising-set (λ p. p.page_id) pages k page rising (λ d. sym (eqb-true (get_or pages k d).page_id page.page_id (position-Some (λ p. eqb p.page_id page.page_id) pages k d (sym found)).1))

-- ---- the pages of the link tables

-- what holds of each table that holds something else
EachPages-map : (P Q : Option (List ℕ) → Type 0) (held : PagesHeld) → ((o : Option (List ℕ)) → P o → Q o) → EachPages P held → EachPages Q held
EachPages-map P Q held f each =
    (f held.pagelinks each.0, f held.templatelinks each.1, f held.existlinks each.2, f held.categorylinks each.3, f held.redirects each.4)

module _ (pages : List PageColumns) where
  abbrev IsOf : Option (List ℕ) → Type 0
  IsOf o = IfSome o (λ numbers. numbers ≡ map (λ page. page.page_id) pages)

  above-each : (id : ℕ) → All (λ page. page.page_id < id) pages → (o : Option (List ℕ)) → IsOf o → IfSome o (All (λ earlier. earlier < id))
  above-each id above None of = tt
  above-each id above (Some numbers) of = subst (All (λ earlier. earlier < id)) (sym of) (All-map (λ earlier. earlier < id) (λ page. page.page_id) pages above)

  pub EachPages-above : (held : PagesHeld) (id : ℕ) → ArePagesOf held pages → All (λ page. page.page_id < id) pages
      → EachPages (λ o. IfSome o (All (λ earlier. earlier < id))) held
  EachPages-above held id of above = EachPages-map IsOf (λ o. IfSome o (All (λ earlier. earlier < id))) held (above-each id above) of

  page-at : (id place : ℕ) → position (λ p. eqb p.page_id id) pages ≡ Some place → (o : Option (List ℕ)) → IsOf o → IfSome o (λ numbers. position (λ n. eqb n id) numbers ≡ Some place)
  page-at id place found None of = tt
  page-at id place found (Some numbers) of = ap (position (λ n. eqb n id)) of ∙ position-map (λ p. p.page_id) (λ n. eqb n id) pages ∙ found

  -- where a page stands its rows stand
  pub EachPages-at : (held : PagesHeld) (id place : ℕ) → ArePagesOf held pages → position (λ p. eqb p.page_id id) pages ≡ Some place
      → EachPages (λ o. IfSome o (λ numbers. position (λ n. eqb n id) numbers ≡ Some place)) held
  EachPages-at held id place of found = EachPages-map IsOf (λ o. IfSome o (λ numbers. position (λ n. eqb n id) numbers ≡ Some place)) held (page-at id place found) of

pub pages-added : (links : Option (List ℕ)) (pages : List PageColumns) (page : PageColumns) → IfSome links (λ numbers. numbers ≡ map (λ p. p.page_id) pages)
    → IfSome (option_map (λ numbers. numbers ++ page.page_id ∷ []) links) (λ numbers. numbers ≡ map (λ p. p.page_id) (pages ++ page ∷ []))
pages-added None pages page of = tt
pages-added (Some numbers) pages page of = ap (λ l. l ++ page.page_id ∷ []) of ∙ sym (map-append (λ p. p.page_id) pages (page ∷ []))

pub pages-renewed : (links : Option (List ℕ)) (pages : List PageColumns) (k : ℕ) (page : PageColumns) → Some k ≡ position (λ p. eqb p.page_id page.page_id) pages
    → IfSome links (λ numbers. numbers ≡ map (λ p. p.page_id) pages) → IfSome links (λ numbers. numbers ≡ map (λ p. p.page_id) (set pages k page))
pages-renewed None pages k page found of = tt
pages-renewed (Some numbers) pages k page found of =
    of ∙ sym (map-same (λ p. p.page_id) pages k page (λ d. eqb-true (get_or pages k d).page_id page.page_id (position-Some (λ p. eqb p.page_id page.page_id) pages k d (sym found)).1))

pub EachPages-added : (held : PagesHeld) (pages : List PageColumns) (page : PageColumns) → ArePagesOf held pages
    → ArePagesOf (map_pages (option_map (λ numbers. numbers ++ page.page_id ∷ [])) held) (pages ++ page ∷ [])
EachPages-added held pages page of = (
  pages-added held.pagelinks pages page of.0,
  pages-added held.templatelinks pages page of.1,
  pages-added held.existlinks pages page of.2,
  pages-added held.categorylinks pages page of.3,
  pages-added held.redirects pages page of.4,
)

pub EachPages-renewed : (held : PagesHeld) (pages : List PageColumns) (k : ℕ) (page : PageColumns) → Some k ≡ position (λ p. eqb p.page_id page.page_id) pages
    → ArePagesOf held pages → ArePagesOf held (set pages k page)
EachPages-renewed held pages k page found of = (
  pages-renewed held.pagelinks pages k page found of.0,
  pages-renewed held.templatelinks pages k page found of.1,
  pages-renewed held.existlinks pages k page found of.2,
  pages-renewed held.categorylinks pages k page found of.3,
  pages-renewed held.redirects pages k page found of.4,
)

-- the item at the first place is the one that is found
pub find-position : {X : Type 0} (p : X → Bool) (xs : List X) (k : ℕ) (d : X) → Some k ≡ position p xs → find p xs ≡ Some (get_or xs k d)
find-position {X} p xs k d found = let at = position-Some p xs k d (sym found) in go xs k at.0 at.1 at.2
  where
    go : (xs : List X) (k : ℕ) → k < length xs → p (get_or xs k d) ≡ true → ((j : ℕ) → j < k → p (get_or xs j d) ≡ false) → find p xs ≡ Some (get_or xs k d)
    go [] k inside here before = absurd (omega arith)
    go (x ∷ xs) zero inside here before = rw here refl
    go (x ∷ xs) (suc k) inside here before = rw (before 0 (omega arith)) (go xs k (omega arith) here (λ j l. before (suc j) (omega arith)))

-- ---- lists of rows

pub same-lists : (a b : LinkLists) → a.pagelinks ≡ b.pagelinks → a.templatelinks ≡ b.templatelinks → a.existlinks ≡ b.existlinks → a.categorylinks ≡ b.categorylinks → a.redirects ≡ b.redirects → a ≡ b
same-lists a b e1 e2 e3 e4 e5 =
    ap (λ x. at x a.templatelinks a.existlinks a.categorylinks a.redirects) e1 ∙ ap (λ x. at b.pagelinks x a.existlinks a.categorylinks a.redirects) e2
    ∙ ap (λ x. at b.pagelinks b.templatelinks x a.categorylinks a.redirects) e3 ∙ ap (λ x. at b.pagelinks b.templatelinks b.existlinks x a.redirects) e4
    ∙ ap (λ x. at b.pagelinks b.templatelinks b.existlinks b.categorylinks x) e5
  where
    at : List LinkColumns → List LinkColumns → List LinkColumns → List CategoryColumns → List RedirectColumns → LinkLists
    at p t e c r = record { pagelinks = p; templatelinks = t; existlinks = e; categorylinks = c; redirects = r }

pub map-both : {X Y Z : Type 0} (f : Y → Z) (g : X → Y) (xs : List X) → map (λ x. f (g x)) xs ≡ map f (map g xs)
map-both f g [] = refl
map-both f g (x ∷ xs) = ap (λ later. f (g x) ∷ later) (map-both f g xs)

pub at-most-one : {X : Type 0} (o : Option X) → length (option_to_list o) ≤ 1
at-most-one None = omega arith
at-most-one (Some x) = omega arith

-- a page that is there is found
pub there-found : (pages : List PageColumns) (id : ℕ) (o : Option ℕ) → o ≡ position (λ p. eqb p.page_id id) pages → list_any (λ p. eqb p.page_id id) pages ≡ true → IsSome o
there-found pages id None none there = absurd (any-found (λ p. eqb p.page_id id) pages none there)
there-found pages id (Some place) found there = refl
