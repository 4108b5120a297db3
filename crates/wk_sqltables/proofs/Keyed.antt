-- The rows of a table whose first column is the row number.
use Rattle.std.proofs.Common.{◌≡◌, ◌≤◌, ℕ, ℤ, pos, ◌<ℤ◌, eqb, nat_lt, List, [], ◌∷◌, ◌++◌, map, filter, length, drop, Bool, true, false, not, cond, refl, sym, ap, ap₂, subst, subst₂, ◌∙◌, true≢false, arith, Less, int_cmp, int_eq}
use Rattle.std.specs.List.{AllByRecursion, list_all, list_any}
use Rattle.std.specs.List.Sorted.{IsPermutation}
use Rattle.std.proofs.lemmas.Bool.Decides.{nat_tests}
use Rattle.std.proofs.lemmas.Int.{ints}
use Rattle.sqlite_value.specs.declared.value.Value.TheVariants.{Int}
use Rattle.sqlite_value.specs.Order.{Row, value_cmp}
use Rattle.sqlite_value.proofs.OrderLemmas.{value_cmp-Int}
use Rattle.sqlite_trees.specs.Tree.{IsTable, rowid, has_rowid, put_row, without_rowid}
use Rattle.sqlite_trees.specs.View.{is_int}
use Rattle.sqlite_trees.proofs.TreeLemmas.{IsTable-put_row}
use Rattle.sqlite_schema.specs.declared.schema.Table.{Table}
use Rattle.sqlite_rules.specs.Calls.{ids_of}
use Rattle.sqlite_rules.specs.Cast.{cast_row}
use Rattle.sqlite_rules.specs.Edit.{without_all, put_all, numbered}
use Rattle.sqlite_rules.specs.declared.error.Rowids.TheVariants.{Given}
use Rattle.sqlite_rules.proofs.PlaceLemmas.{given}
use Rattle.sqlite_keyed.specs.Keyed.{IsKeyedBy, insert_by}
use Rattle.sqlite_keyed.specs.Lists.{without_key}
use Rattle.sqlite_keyed.proofs.ListLemmas.{filter-map, filter_same, ascending-filter, ascending_weaker, ascending_from_map, all-map, none_counted}
use Rattle.sqlite_keyed.proofs.KeyedLemmas.{lt_from_Less}
use Rattle.sqlite_keyed.proofs.RuleLemmas.{at_most_one}
use Rattle.sqlite_typed.proofs.RowLemmas.{puts-map, deletes-map}
use Rattle.sqlite.proofs.Callers.{one_permutation}
use Rattle.wk_sqltables.specs.Entries.{entry}
use Rattle.wk_sqltables.specs.Held.{AreKeyed}
use Rattle.wk_sqltables.proofs.Lists.{with_first, replace_one, put_last}
use Rattle.wk_sqltables.proofs.Picked.{leaves}

filter_passes : {X : Type 0} (q : X → Bool) (xs : List X) → AllByRecursion (λ x. q x ≡ true) (filter q xs)
filter_passes q [] = tt
filter_passes q (x ∷ xs) = go (q x) refl (filter_passes q xs)
  where
    go : (b : Bool) → q x ≡ b → AllByRecursion (λ x. q x ≡ true) (filter q xs) → AllByRecursion (λ x. q x ≡ true) (cond b (x ∷ filter q xs) (filter q xs))
    go true is later = (is, later)
    go false is later = later

module _ {X : Type 0} (values : X → Row) (key : X → ℕ) (keyed : (x : X) → rowid (entry (values x)) ≡ Int (pos (key x))) where
  abbrev to_row : X → Row
  to_row x = entry (values x)

  abbrev number : X → ℤ
  number x = pos (key x)

  ids : (a b : X) → value_cmp (rowid (to_row a)) (rowid (to_row b)) ≡ int_cmp (number a) (number b)
  ids a b = ap₂ value_cmp (keyed a) (keyed b) ∙ value_cmp-Int (number a) (number b)

  pub numbers_rise : (rows : List Row) (items : List X) → AreKeyed values rows items → IsKeyedBy number items
  numbers_rise rows items are =
      let up : IsTable (map to_row items) = subst IsTable are.rows_are are.rise in
      ascending_weaker (λ a b. value_cmp (rowid (to_row a)) (rowid (to_row b)) ≡ Less) (λ a b. number a <ℤ number b) (λ a b h. lt_from_Less (number a) (number b) (sym (ids a b) ∙ h)) items
      (ascending_from_map (λ r s. value_cmp (rowid r) (rowid s) ≡ Less) to_row items up)

  pub have_numbers : (rows : List Row) (items : List X) → AreKeyed values rows items → AllByRecursion (λ r. is_int (rowid r) ≡ true) rows
  have_numbers rows items are =
      subst (AllByRecursion (λ r. is_int (rowid r) ≡ true)) (sym are.rows_are) (all-map (λ r. is_int (rowid r) ≡ true) to_row (λ x. ap is_int (keyed x)) items)

  -- ---- rows go

  pub filtered : (p : Row → Bool) (q : X → Bool) → ((x : X) → p (to_row x) ≡ q x) → (rows : List Row) (items : List X) → AreKeyed values rows items → AreKeyed values (filter p rows) (filter q items)
  filtered p q same rows items are = record {
    rows_are = ap (filter p) are.rows_are ∙ filter-map p to_row items ∙ ap (map to_row) (filter_same (λ x. p (to_row x)) q same items);
    rise = ascending-filter (λ a b. value_cmp (rowid a) (rowid b) ≡ Less) p rows are.rise;
  }

  -- a DELETE leaves those that don't pass
  pub dropped : (p : Row → Bool) (q : X → Bool) → ((x : X) → p (to_row x) ≡ q x) → (rows : List Row) (items : List X) → AreKeyed values rows items
      → (found : List Row) → IsPermutation (map (λ x. rowid x ∷ []) (filter p rows)) found → AreKeyed values (without_all rows (ids_of found)) (filter (λ x. not (q x)) items)
  dropped p q same rows items are found picked =
      let left = leaves rows are.rise (have_numbers rows items are) p found picked in
      subst (λ l. AreKeyed values l (filter (λ x. not (q x)) items)) (sym left) (filtered (λ r. not (p r)) (λ x. not (q x)) (λ x. ap not (same x)) rows items are)

  -- ---- a row comes

  pub put : (new : X) (rows : List Row) (items : List X) → AreKeyed values rows items → AreKeyed values (put_row (to_row new) rows) (insert_by number items new)
  put new rows items are = record {
    rows_are = ap (put_row (to_row new)) are.rows_are ∙ puts-map number to_row keyed (new ∷ []) items;
    rise = IsTable-put_row (to_row new) rows are.rise;
  }

  pub added : (new : X) (rows : List Row) (items : List X) → AreKeyed values rows items → list_all (λ x. nat_lt (key x) (key new)) items ≡ true
      → AreKeyed values (put_row (to_row new) rows) (items ++ new ∷ [])
  added new rows items are above = subst (AreKeyed values (put_row (to_row new) rows)) (put_last key new items above) (put new rows items are)

  -- ---- a row is changed

  gone : (id : ℤ) (rows : List Row) (items : List X) → AreKeyed values rows items → AreKeyed values (without_rowid id rows) (without_key number items id)
  gone id rows items are = record {
    rows_are = ap (without_rowid id) are.rows_are ∙ deletes-map number to_row keyed (id ∷ []) items;
    rise = ascending-filter (λ a b. value_cmp (rowid a) (rowid b) ≡ Less) (λ r. not (has_rowid id r)) rows are.rise;
  }

  same_number : (new x : X) → eqb (key x) (key new) ≡ true → key x ≡ key new
  same_number new x h = grind (arith, nat_tests)

  is_number : (new x : X) → eqb (key x) (key new) ≡ true → int_eq (number x) (number new) ≡ true
  is_number new x h = grind (arith, ints, nat_tests)

  -- An UPDATE of the row with the number of the new one, which shows that number and the new row, puts it in its place.
  module _ (table : Table) (new : X) (stays : cast_row table (to_row new) ≡ to_row new)
      (p : Row → Bool) (same : (x : X) → p (to_row x) ≡ eqb (key x) (key new))
      (show : Row → Row) (shows_new : (x : X) → key x ≡ key new → show (to_row x) ≡ Int (pos (key new)) ∷ to_row new) where
    q : X → Bool
    q x = eqb (key x) (key new)

    one_of : (ones : List X) → AllByRecursion (λ x. eqb (key x) (key new) ≡ true) ones → length ones ≤ 1 → eqb (length ones) 0 ≡ false
        → map show (map to_row ones) ≡ (Int (pos (key new)) ∷ to_row new) ∷ []
    one_of [] all few some = absurd (true≢false some)
    one_of (x ∷ []) all few some = ap (λ r. r ∷ []) (shows_new x (same_number new x all.0))
    one_of (x ∷ y ∷ xs) all few some = absurd (omega (arith, few))

    one_shown : (rows : List Row) (items : List X) → AreKeyed values rows items → list_any (λ x. eqb (key x) (key new)) items ≡ true
        → (found : List Row) → IsPermutation (map show (filter p rows)) found → found ≡ (Int (pos (key new)) ∷ to_row new) ∷ []
    one_shown rows items are any found picked =
        let ones = filter (λ x. eqb (key x) (key new)) items in
        let shown : map show (filter p rows) ≡ map show (map to_row ones) =
        ap (λ l. map show (filter p l)) are.rows_are ∙ ap (map show) (filter-map p to_row items ∙ ap (map to_row) (filter_same (λ x. p (to_row x)) (λ x. eqb (key x) (key new)) same items)) in
        let one = one_of ones (filter_passes (λ x. eqb (key x) (key new)) items) (at_most_one number (number new) (λ x. eqb (key x) (key new)) (λ x h. is_number new x h) items (numbers_rise rows items are)) (none_counted (λ x. eqb (key x) (key new)) items ∙ ap not any) in
        one_permutation (Int (pos (key new)) ∷ to_row new) found (subst (λ l. IsPermutation l found) (shown ∙ one) picked)

    pub updated : (rows : List Row) (items : List X) → AreKeyed values rows items → list_any (λ x. eqb (key x) (key new)) items ≡ true
        → (found : List Row) → IsPermutation (map show (filter p rows)) found
        → AreKeyed values (put_all (without_all rows (ids_of found)) (numbered Given (without_all rows (ids_of found)) (map (λ s. cast_row table (drop 1 s)) found))) (with_first (λ x. eqb (key x) (key new)) new items)
    updated rows items are any found picked =
        let one = one_shown rows items are any found picked in
        let left = without_rowid (number new) rows in
        let edit : put_all (without_all rows (ids_of found)) (numbered Given (without_all rows (ids_of found)) (map (λ s. cast_row table (drop 1 s)) found)) ≡ put_row (to_row new) left =
        ap (λ l. put_all (without_all rows (ids_of l)) (numbered Given (without_all rows (ids_of l)) (map (λ s. cast_row table (drop 1 s)) l))) one
        ∙ ap (λ l. put_all left l) (given left (cast_row table (to_row new) ∷ [])) ∙ ap (λ r. put_row r left) stays in
        let is = put new left (without_key number items (number new)) (gone (number new) rows items are) in
        subst₂ (AreKeyed values) (sym edit) (replace_one key new items (numbers_rise rows items are) any) is
