-- The page table stays good where a page's row is set, with a revision of that page behind the others.
use Rattle.std.proofs.Common.{◌≡◌, ℕ, pos, zero, suc, ◌+◌, ◌<◌, ◌≤◌, Bool, true, false, eqb, ltb, leb, not, ◌&&◌, ◌||◌, List, [], ◌∷◌, ◌++◌, map, length, set, Some, None, refl, sym, ap, ◌∙◌, inl, inr, subst, arith}
use Rattle.std.specs.Prelude.{find, slice_get, position, option_map, unwrap_or}
use Rattle.std.specs.List.{AllByRecursion, list_any, position_or_len}
use Rattle.std.proofs.Math.Numerals.{one-add}
use Rattle.std.proofs.lemmas.Bool.{cases_Bool, and_parts, and_from, or_left, or_right, lt-ltb, le-ltb, le-leb, eqb-true, eq-eqb, ne_eqb}
use Rattle.std.proofs.lemmas.List.{length-append, length-map, map-append}
use Rattle.std.proofs.lemmas.List.Folds.{find_at, list_any-append}
use Rattle.wk_text_rules.specs.Titles.{PageTitle, title_eq, is_page_title}
use Rattle.wk_table_rules.specs.Rows.{StoreTables, PageColumns, RevisionColumns}
use Rattle.wk_table_rules.specs.Changes.{with_page, applied, add_revision, set_page}
use Rattle.wk_page_rules.specs.Verdict.{max_pages}
use Rattle.wk_table_rules.specs.GoodStore.{has_good_id, has_good_title, has_good_latest}
use Rattle.wk_table_laws.specs.EachGood.{GoodAfter, EachGood, KeepsRules}
use Rattle.wk_table_laws.specs.Premises.{FitRevision, IsStanding, IsNext}
use Rattle.wk_table_laws.proofs.FirstBad.{EachGood-push}
use Rattle.wk_table_laws.proofs.Pairs.{each-append, each-weaker}
use Rattle.wk_table_laws.proofs.Links.{GoodAfter-map}
use Rattle.wk_table_laws.proofs.JobRows.{position-found, position-none, slice_get-within}
use Rattle.wk_table_laws.proofs.SavedRows.{Grows, KeepsRules-saved, each-at, ids-above, ids-within, latest-own, latest-other}

-- the rows of other pages stay right
others-latest : (tables : StoreTables) (revision : RevisionColumns) (page : PageColumns) → FitRevision tables revision page → (all rows before : List PageColumns)
    → AllByRecursion (λ row. row.page_id ≡ page.page_id → ⊥) rows → GoodAfter (has_good_latest tables) before rows
    → AllByRecursion (λ row. has_good_latest (record tables { pages = all; revisions = tables.revisions ++ revision ∷ [] }) [] row ≡ true) rows
others-latest tables revision page fit all [] before apart good = tt
others-latest tables revision page fit all (row ∷ rows) before apart good =
    (latest-other tables revision page fit all row apart.0 good.0, others-latest tables revision page fit all rows (before ++ row ∷ []) apart.1 good.1)

-- ---- a new page

find-front : {X : Type 0} (p : X → Bool) (xs ys : List X) → list_any p xs ≡ true → find p (xs ++ ys) ≡ find p xs
find-front p [] ys there = absurd (let e : false ≡ true = there in cc)
find-front p (x ∷ xs) ys there = elim (cases_Bool (p x)) [
  | inl first ↦ rw first refl
  | inr other ↦ rw other (find-front p xs ys (rw other at there))
]

list_any-front : {X : Type 0} (p : X → Bool) (xs ys : List X) → list_any p xs ≡ true → list_any p (xs ++ ys) ≡ true
list_any-front p xs ys there = list_any-append p xs ys ∙ or_left (list_any p xs) (list_any p ys) there

absent-len : {X : Type 0} (p : X → Bool) (xs : List X) → AllByRecursion (λ x. p x ≡ false) xs → position_or_len p xs ≡ length xs
absent-len p [] none = refl
absent-len p (x ∷ xs) none = rw (none.0, absent-len p xs none.1, one-add) refl

with_page-next : (rows : List PageColumns) (new : PageColumns) → AllByRecursion (λ row. eqb row.page_id new.page_id ≡ false) rows → with_page rows new ≡ rows ++ new ∷ []
with_page-next rows new none =
    let past : ltb (position_or_len (λ row. eqb row.page_id new.page_id) rows) (length rows) ≡ false =
    rw (absent-len (λ row. eqb row.page_id new.page_id) rows none) (le-ltb (length rows) (length rows) (omega arith)) in
    rw (position-none (λ row. eqb row.page_id new.page_id) rows past, with_page) refl

grows-next : (tables : StoreTables) (new : PageColumns) → Grows tables (tables.pages ++ new ∷ [])
grows-next tables new = record {
  there = λ id there. list_any-front (λ row. eqb row.page_id id) tables.pages (new ∷ []) there;
  named = λ title there. list_any-front (λ row. title_eq row.page_title title) tables.pages (new ∷ []) there;
  placed = λ id there. ap (λ o. unwrap_or (option_map (λ (row : PageColumns). row.page_title.ns) o) (pos 0)) (find-front (λ row. eqb row.page_id id) tables.pages (new ∷ []) there);
}

pub KeepsRules-next : (tables : StoreTables) (revision : RevisionColumns) (page : PageColumns) → FitRevision tables revision page → IsNext tables page → KeepsRules tables
    → KeepsRules (applied tables (add_revision revision ∷ set_page page ∷ []))
KeepsRules-next tables revision page fit next keeps =
    let pages = tables.pages ++ page ∷ [] in
    let within = ids-within [] tables.pages keeps.ids in
    let apart : AllByRecursion (λ row. row.page_id ≡ page.page_id → ⊥) tables.pages =
    each-weaker (λ row. row.page_id ≤ 0 + length tables.pages) (λ row. row.page_id ≡ page.page_id → ⊥)
    (λ row low same. let number : page.page_id ≡ length tables.pages + 1 = next.number in omega arith) tables.pages within in
    let absent = each-weaker (λ row. row.page_id ≡ page.page_id → ⊥) (λ row. eqb row.page_id page.page_id ≡ false) (λ row other. ne_eqb row.page_id page.page_id other) tables.pages apart in
    rw (with_page-next tables.pages page absent)
    (KeepsRules-saved tables revision page fit pages keeps (grows-next tables page)
    (list_any-append (λ row. eqb row.page_id revision.rev_page) tables.pages (page ∷ [])
    ∙ or_right (list_any (λ row. eqb row.page_id revision.rev_page) tables.pages) (list_any (λ row. eqb row.page_id revision.rev_page) (page ∷ []))
    (or_left (eqb page.page_id revision.rev_page) false (eq-eqb page.page_id revision.rev_page (sym fit.of_page))))
    (EachGood-push has_good_id tables.pages page keeps.ids
    (and_from (eqb page.page_id (length tables.pages + 1)) (leb page.page_id max_pages)
    (eq-eqb page.page_id (length tables.pages + 1) next.number) (le-leb page.page_id max_pages next.few)))
    (EachGood-push has_good_title tables.pages page keeps.titles next.title)
    (each-append (λ row. has_good_latest (record tables { pages = pages; revisions = tables.revisions ++ revision ∷ [] }) [] row ≡ true) tables.pages (page ∷ [])
    (others-latest tables revision page fit pages tables.pages [] apart keeps.latest)
    (latest-own tables revision page fit pages, tt)))

-- ---- a page that is there

-- a row is set to one that is alike where it counts
map-set-alike : {K : Type 0} (key : PageColumns → K) (old new : PageColumns) → key new ≡ key old → (rows : List PageColumns) (place : ℕ) → slice_get rows place ≡ Some old → map key (set rows place new) ≡ map key rows
map-set-alike key old new alike [] place there = refl
map-set-alike key old new alike (row ∷ rows) zero there = let e : row ≡ old = (let same : Some row ≡ Some old = there in cc) in ap (λ k. k ∷ map key rows) (alike ∙ ap key (sym e))
map-set-alike key old new alike (row ∷ rows) (suc place) there = ap (λ ks. key row ∷ ks) (map-set-alike key old new alike rows place there)

list_any-map : {X Y : Type 0} (p : Y → Bool) (f : X → Y) (xs : List X) → list_any p (map f xs) ≡ list_any (λ x. p (f x)) xs
list_any-map p f [] = refl
list_any-map p f (x ∷ xs) = ap (λ b. p (f x) || b) (list_any-map p f xs)

-- a table that is judged by one thing of each row
module _ {K : Type 0} (key : PageColumns → K) (by_row : List PageColumns → PageColumns → Bool) (by_key : List K → K → Bool) (is : (before : List PageColumns) (row : PageColumns) → by_row before row ≡ by_key (map key before) (key row)) where
  keys-good : (before rows : List PageColumns) → GoodAfter by_key (map key before) (map key rows) → GoodAfter by_row before rows
  keys-good before [] good = tt
  keys-good before (row ∷ rows) good =
      (is before row ∙ good.0, keys-good (before ++ row ∷ []) rows (rw (map-append key before (row ∷ [])) good.1))

  EachGood-alike : (rows rows' : List PageColumns) → map key rows' ≡ map key rows → EachGood by_row rows → EachGood by_row rows'
  EachGood-alike rows rows' alike good =
      keys-good [] rows' (rw alike (GoodAfter-map key by_row by_key (λ before row passes. sym (is before row) ∙ passes) [] rows good))

id-by_key : (before : List PageColumns) (row : PageColumns) → has_good_id before row ≡ (eqb row.page_id (length (map (λ (earlier : PageColumns). earlier.page_id) before) + 1) && leb row.page_id max_pages)
id-by_key before row = rw length-map refl

title-by_key : (before : List PageColumns) (row : PageColumns) → has_good_title before row ≡ (is_page_title row.page_title && not (list_any (λ earlier. title_eq earlier row.page_title) (map (λ (earlier : PageColumns). earlier.page_title) before)))
title-by_key before row = ap (λ b. is_page_title row.page_title && not b) (sym (list_any-map (λ earlier. title_eq earlier row.page_title) (λ (earlier : PageColumns). earlier.page_title) before))

pub find-passes : {X : Type 0} (p : X → Bool) (xs : List X) (x : X) → find p xs ≡ Some x → (p x ≡ true) × (list_any p xs ≡ true)
find-passes p [] x found = absurd (let e : None ≡ Some x = found in cc)
find-passes p (y ∷ xs) x found = elim (cases_Bool (p y)) [
  | inl first ↦ let e : y ≡ x = (let same : Some y ≡ Some x = (rw first at found) in cc) in (subst (λ z. p z ≡ true) e first, or_left (p y) (list_any p xs) first)
  | inr other ↦ let later = find-passes p xs x (rw other at found) in (later.0, or_right (p y) (list_any p xs) later.1)
]

module _ (tables : StoreTables) (old new : PageColumns) (place : ℕ) (there : slice_get tables.pages place ≡ Some old) (id : new.page_id ≡ old.page_id) (title : new.page_title ≡ old.page_title) where
  any-alike : {K : Type 0} (key : PageColumns → K) (p : K → Bool) → key new ≡ key old → list_any (λ row. p (key row)) (set tables.pages place new) ≡ list_any (λ row. p (key row)) tables.pages
  any-alike key p alike =
      sym (list_any-map p key (set tables.pages place new))
      ∙ (ap (list_any p) (map-set-alike key old new alike tables.pages place there) ∙ list_any-map p key tables.pages)

  placed-alike : (whose : ℕ) (rows : List PageColumns) (at : ℕ) → slice_get rows at ≡ Some old
      → option_map (λ (row : PageColumns). row.page_title.ns) (find (λ row. eqb row.page_id whose) (set rows at new)) ≡ option_map (λ (row : PageColumns). row.page_title.ns) (find (λ row. eqb row.page_id whose) rows)
  placed-alike whose [] at there = refl
  placed-alike whose (row ∷ rows) zero there =
      let e : old ≡ row = (let same : Some row ≡ Some old = there in cc) in
      let test : eqb new.page_id whose ≡ eqb row.page_id whose = ap (λ n. eqb n whose) (id ∙ ap (λ (r : PageColumns). r.page_id) e) in
      let ns : new.page_title.ns ≡ row.page_title.ns = ap (λ (t : PageTitle). t.ns) (title ∙ ap (λ (r : PageColumns). r.page_title) e) in
      rw test (elim (cases_Bool (eqb row.page_id whose)) [ inl own ↦ rw (own, ns) refl | inr other ↦ rw other refl ])
  placed-alike whose (row ∷ rows) (suc at) there = elim (cases_Bool (eqb row.page_id whose)) [
    | inl own ↦ rw own refl
    | inr other ↦ rw other (placed-alike whose rows at there)
  ]

  grows-standing : Grows tables (set tables.pages place new)
  grows-standing = record {
    there = λ whose found. any-alike (λ row. row.page_id) (λ n. eqb n whose) id ∙ found;
    named = λ named found. any-alike (λ row. row.page_title) (λ t. title_eq t named) title ∙ found;
    placed = λ whose found. ap (λ o. unwrap_or o (pos 0)) (placed-alike whose tables.pages place there);
  }

pub with_page-standing : (rows : List PageColumns) (new : PageColumns) (place : ℕ) → position (λ row. eqb row.page_id new.page_id) rows ≡ Some place → with_page rows new ≡ set rows place new
with_page-standing rows new place at = rw (at, with_page) refl

pub KeepsRules-standing : (tables : StoreTables) (revision : RevisionColumns) (old page : PageColumns) → FitRevision tables revision page → IsStanding tables old page → KeepsRules tables
    → KeepsRules (applied tables (add_revision revision ∷ set_page page ∷ []))
KeepsRules-standing tables revision old page fit standing keeps =
    let test = λ (row : PageColumns). eqb row.page_id page.page_id in
    let place = position_or_len (λ row. eqb row.page_id page.page_id) tables.pages in
    let there : slice_get tables.pages place ≡ Some old = sym (find_at (λ row. eqb row.page_id page.page_id) tables.pages) ∙ standing.there in
    let found = find-passes (λ row. eqb row.page_id page.page_id) tables.pages old standing.there in
    let id : page.page_id ≡ old.page_id = sym (eqb-true old.page_id page.page_id found.0) in
    let within : ltb place (length tables.pages) ≡ true = lt-ltb place (length tables.pages) (slice_get-within tables.pages place old there) in
    let pages = set tables.pages place page in
    let grows = grows-standing tables old page place there id standing.title in
    rw (with_page-standing tables.pages page place (position-found (λ row. eqb row.page_id page.page_id) tables.pages within))
    (KeepsRules-saved tables revision page fit pages keeps grows
    (grows.there revision.rev_page (subst (λ n. list_any (λ row. eqb row.page_id n) tables.pages ≡ true) (sym fit.of_page) found.1))
    (EachGood-alike (λ (row : PageColumns). row.page_id) has_good_id (λ ids n. eqb n (length ids + 1) && leb n max_pages) id-by_key tables.pages pages
    (map-set-alike (λ (row : PageColumns). row.page_id) old page id tables.pages place there) keeps.ids)
    (EachGood-alike (λ (row : PageColumns). row.page_title) has_good_title (λ titles t. is_page_title t && not (list_any (λ earlier. title_eq earlier t) titles)) title-by_key tables.pages pages
    (map-set-alike (λ (row : PageColumns). row.page_title) old page standing.title tables.pages place there) keeps.titles)
    (latest-set pages id tables.pages [] place there keeps.ids keeps.latest))
  where
    latest-set : (all : List PageColumns) → page.page_id ≡ old.page_id → (rows before : List PageColumns) (at : ℕ) → slice_get rows at ≡ Some old → GoodAfter has_good_id before rows → GoodAfter (has_good_latest tables) before rows
        → AllByRecursion (λ row. has_good_latest (record tables { pages = all; revisions = tables.revisions ++ revision ∷ [] }) [] row ≡ true) (set rows at page)
    latest-set all id [] before at there ids good = absurd (let e : None ≡ Some old = there in cc)
    latest-set all id (row ∷ rows) before zero there ids good =
        let e : row ≡ old = (let same : Some row ≡ Some old = there in cc) in
        let own : page.page_id ≡ row.page_id = id ∙ ap (λ (r : PageColumns). r.page_id) (sym e) in
        let parts = and_parts (eqb row.page_id (length before + 1)) (leb row.page_id max_pages) ids.0 in
        let number : row.page_id ≡ length before + 1 = eqb-true row.page_id (length before + 1) parts.0 in
        let longer : length (before ++ row ∷ []) ≡ length before + 1 = length-append before (row ∷ []) in (
          latest-own tables revision page fit all,
          others-latest tables revision page fit all rows (before ++ row ∷ [])
              (each-weaker (λ later. length (before ++ row ∷ []) < later.page_id) (λ later. later.page_id ≡ page.page_id → ⊥) (λ later above same. omega arith) rows (ids-above (before ++ row ∷ []) rows ids.1))
              good.1,
        )
    latest-set all id (row ∷ rows) before (suc at) there ids good =
        let parts = and_parts (eqb row.page_id (length before + 1)) (leb row.page_id max_pages) ids.0 in
        let number : row.page_id ≡ length before + 1 = eqb-true row.page_id (length before + 1) parts.0 in
        let longer : length (before ++ row ∷ []) ≡ length before + 1 = length-append before (row ∷ []) in
        let above : length (before ++ row ∷ []) < old.page_id = each-at (λ later. length (before ++ row ∷ []) < later.page_id) rows at old there (ids-above (before ++ row ∷ []) rows ids.1) in (
          latest-other tables revision page fit all row (λ same. omega arith) good.0,
          latest-set all id rows (before ++ row ∷ []) at there ids.1 good.1,
        )
