-- The rows of a table whose row numbers the database chose.
use Rattle.std.proofs.Common.{◌≡◌, ℤ, pos, ◌+ℤ◌, List, [], ◌∷◌, ◌++◌, map, filter, drop, Bool, true, false, not, cond, arith, refl, sym, ap, subst, ◌∙◌, Less, int_cmp}
use Rattle.std.specs.List.{AllByRecursion}
use Rattle.std.specs.List.Sorted.{IsPermutation}
use Rattle.std.proofs.lemmas.Int.{ints}
use Rattle.sqlite_value.specs.declared.value.Value.TheVariants.{Int}
use Rattle.sqlite_value.specs.Order.{Row, value_cmp}
use Rattle.sqlite_value.proofs.OrderLemmas.{value_cmp-Int}
use Rattle.sqlite_trees.specs.Tree.{IsTable, rowid, put_row}
use Rattle.sqlite_trees.specs.View.{is_int}
use Rattle.sqlite_trees.proofs.TreeLemmas.{IsTable-put_row}
use Rattle.sqlite_rules.specs.Calls.{ids_of}
use Rattle.sqlite_rules.specs.Edit.{id_in, next_rowid, without_all}
use Rattle.sqlite_rules.proofs.TableLemmas.{int_is}
use Rattle.sqlite_keyed.proofs.ListLemmas.{ascending-filter, all-filter}
use Rattle.wk_sqltables.specs.Held.{AreStored}
use Rattle.wk_sqltables.proofs.Picked.{leaves}

-- ---- a new row number is above all others

int_less : (a b : ℤ) → int_cmp a b ≡ Less → value_cmp (Int a) (Int b) ≡ Less
int_less a b h = value_cmp-Int a b ∙ h

less_int : (a b : ℤ) → value_cmp (Int a) (Int b) ≡ Less → int_cmp a b ≡ Less
less_int a b h = sym (value_cmp-Int a b) ∙ h

one_more : (n : ℤ) → int_cmp n (n +ℤ pos 1) ≡ Less
one_more n = grind (arith, ints)

steps : (a b c : ℤ) → int_cmp a b ≡ Less → int_cmp b c ≡ Less → int_cmp a c ≡ Less
steps a b c h k = grind (arith, ints)

below_next : (r : Row) (rows : List Row) → is_int (rowid r) ≡ true → AllByRecursion (λ q. is_int (rowid q) ≡ true) rows → IsTable (r ∷ rows) → value_cmp (rowid r) (Int (next_rowid (r ∷ rows))) ≡ Less
below_next r [] int ints_too up = ap (λ v. value_cmp v (Int (id_in (rowid r) +ℤ pos 1))) (int_is (rowid r) int) ∙ int_less (id_in (rowid r)) (id_in (rowid r) +ℤ pos 1) (one_more (id_in (rowid r)))
below_next r (q ∷ rows) int ints_too up =
    let later = below_next q rows ints_too.0 ints_too.1 up.1 in
    let n = next_rowid (q ∷ rows) in
    let a = id_in (rowid r) in
    let b = id_in (rowid q) in
    let qn = less_int b n (subst (λ v. value_cmp v (Int n) ≡ Less) (int_is (rowid q) ints_too.0) later) in
    let rq : value_cmp (rowid r) (rowid q) ≡ Less = up.0.0 in
    let rq1 : value_cmp (Int a) (rowid q) ≡ Less = subst (λ v. value_cmp v (rowid q) ≡ Less) (int_is (rowid r) int) rq in
    let rq2 = less_int a b (subst (λ v. value_cmp (Int a) v ≡ Less) (int_is (rowid q) ints_too.0) rq1) in
    ap (λ v. value_cmp v (Int n)) (int_is (rowid r) int) ∙ int_less a n (steps a b n rq2 qn)

put_last : (new : Row) (rows : List Row) → AllByRecursion (λ r. value_cmp (rowid r) (rowid new) ≡ Less) rows → put_row new rows ≡ rows ++ new ∷ []
put_last new [] h = refl
put_last new (r ∷ rows) h = rw h.0 (ap (λ l. r ∷ l) (put_last new rows h.1))

all_below : (rows : List Row) → AllByRecursion (λ q. is_int (rowid q) ≡ true) rows → IsTable rows → AllByRecursion (λ r. value_cmp (rowid r) (Int (next_rowid rows)) ≡ Less) rows
all_below [] keyed up = tt
all_below (r ∷ []) keyed up = (below_next r [] keyed.0 keyed.1 up, tt)
all_below (r ∷ q ∷ rows) keyed up = (below_next r (q ∷ rows) keyed.0 keyed.1 up, all_below (q ∷ rows) keyed.1 up.1)

pub map_append : {X Y : Type 0} (f : X → Y) (xs ys : List X) → map f (xs ++ ys) ≡ map f xs ++ map f ys
map_append f [] ys = refl
map_append f (x ∷ xs) ys = ap (λ l. f x ∷ l) (map_append f xs ys)

all_append : (P : Row → Type 0) (xs : List Row) (y : Row) → AllByRecursion P xs → P y → AllByRecursion P (xs ++ y ∷ [])
all_append P [] y h p = (p, tt)
all_append P (x ∷ xs) y h p = (h.0, all_append P xs y h.1 p)

module _ {X : Type 0} (values : X → Row) where
  pub pushed : (x : X) (rows : List Row) (items : List X) → AreStored values rows items → AreStored values (put_row (Int (next_rowid rows) ∷ values x) rows) (items ++ x ∷ [])
  pushed x rows items are =
      let row : Row = Int (next_rowid rows) ∷ values x in
      let last : put_row row rows ≡ rows ++ row ∷ [] = put_last row rows (all_below rows are.numbered are.rise) in
      record {
        rows_are = ap (map (drop 1)) last ∙ map_append (drop 1) rows (row ∷ []) ∙ ap (λ l. l ++ values x ∷ []) are.rows_are ∙ sym (map_append values items (x ∷ []));
        rise = IsTable-put_row row rows are.rise;
        numbered = subst (AllByRecursion (λ r. is_int (rowid r) ≡ true)) (sym last) (all_append (λ r. is_int (rowid r) ≡ true) rows row are.numbered refl);
      }

  split : (r : Row) (rows : List Row) (x : X) (xs : List X) → map (drop 1) (r ∷ rows) ≡ map values (x ∷ xs) → (drop 1 r ≡ values x) × (map (drop 1) rows ≡ map values xs)
  split r rows x xs e = (let h = e in cc, let h = e in cc)

  -- a DELETE leaves those that don't pass
  module _ (p : Row → Bool) (q : X → Bool) (same : (r : Row) (x : X) → drop 1 r ≡ values x → p r ≡ q x) where
    kept : (rows : List Row) (items : List X) → map (drop 1) rows ≡ map values items → map (drop 1) (filter (λ r. not (p r)) rows) ≡ map values (filter (λ x. not (q x)) items)
    kept [] [] e = refl
    kept [] (x ∷ xs) e = absurd (let h = e in cc)
    kept (r ∷ rows) [] e = absurd (let h = e in cc)
    kept (r ∷ rows) (x ∷ xs) e = go (q x) (same r x parts.0) parts.0 (kept rows xs parts.1)
      where
        parts : (drop 1 r ≡ values x) × (map (drop 1) rows ≡ map values xs)
        parts = split r rows x xs e

        left : List Row
        left = filter (λ r. not (p r)) rows

        after : List X
        after = filter (λ x. not (q x)) xs

        go : (b : Bool) → p r ≡ b → drop 1 r ≡ values x → map (drop 1) left ≡ map values after
            → map (drop 1) (cond (not (p r)) (r ∷ left) left) ≡ map values (cond (not b) (x ∷ after) after)
        go true is first later = rw is later
        go false is first later = rw (is, first, later) refl

    pub dropped : (rows : List Row) (items : List X) → AreStored values rows items → (found : List Row) → IsPermutation (map (λ r. rowid r ∷ []) (filter p rows)) found
        → AreStored values (without_all rows (ids_of found)) (filter (λ x. not (q x)) items)
    dropped rows items are found picked =
        let left = leaves rows are.rise are.numbered p found picked in
        subst (λ l. AreStored values l (filter (λ x. not (q x)) items)) (sym left) (record {
          rows_are = kept rows items are.rows_are;
          rise = ascending-filter (λ a b. value_cmp (rowid a) (rowid b) ≡ Less) (λ r. not (p r)) rows are.rise;
          numbered = all-filter (λ r. is_int (rowid r) ≡ true) (λ r. not (p r)) rows are.numbered;
        })
