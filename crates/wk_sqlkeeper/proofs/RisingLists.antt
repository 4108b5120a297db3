-- Lists that rise, where each item is compared with the next.
use Rattle.std.proofs.Common.{◌≡◌, ◌+◌, ◌<◌, ℕ, suc, zero, Bool, true, false, List, [], ◌∷◌, length, map, get_or, Ordering, Less, Equal, Greater, is_lt, ◌&&◌, true≢false, refl, sym, subst, arith}
use Rattle.std.specs.List.{AllAdjacentBelow, AllByRecursion, IsAllAdjacentAnswer, list_all}
use Rattle.std.specs.Cmp.{IsTotalOrder}
use Rattle.std.proofs.lemmas.Bool.{and_parts}
use Rattle.std.proofs.lemmas.List.Folds.{list_all-map}
use Rattle.sqlite_trees.specs.Tree.{IsAscending}
use Rattle.wk_page_rules.specs.PageRows.{PageRows}
use Rattle.wk_table_rules.specs.Changes.{TableEdit, add_revision, set_page, set_rows, add_job, set_job, drop_job, set_version}
use Rattle.wk_text_rules.specs.Titles.{title_cmp}
use Rattle.wk_sqltables.specs.Edits.{AreOrdered, IsOrdered}
use Rattle.wk_sqltables.specs.Members.{category_cmp}
use Rattle.wk_sqltables.specs.Rows.{AreRising}
use Rattle.wk_sqlkeeper.specs.Rising.{change_rises, edit_rises, rises, rows_rise}

is_less : (o : Ordering) → is_lt o ≡ true → o ≡ Less
is_less Less h = refl
is_less Equal h = absurd (true≢false (sym h))
is_less Greater h = absurd (true≢false (sym h))

-- ---- what rises is in order

module _ {X : Type 0} (cmp : X → X → Ordering) where
  above_all : (x : X) (xs : List X) → list_all (λ y. is_lt (cmp x y)) xs ≡ true → AllByRecursion (λ y. cmp x y ≡ Less) xs
  above_all x [] h = tt
  above_all x (y ∷ ys) h =
      let parts = and_parts (is_lt (cmp x y)) (list_all (λ z. is_lt (cmp x z)) ys) h in (is_less (cmp x y) parts.0, above_all x ys parts.1)

  ascends : (xs : List X) → rises cmp xs ≡ true → IsAscending (λ a b. cmp a b ≡ Less) xs
  ascends [] h = tt
  ascends (x ∷ xs) h =
      let parts = and_parts (list_all (λ y. is_lt (cmp x y)) xs) (rises cmp xs) h in (above_all x xs parts.0, ascends xs parts.1)

rows_ascend : (rows : PageRows) → rows_rise rows ≡ true → AreRising rows
rows_ascend rows h =
    let first = and_parts (rises title_cmp rows.templates) _ h in
    let second = and_parts (rises title_cmp rows.exists) _ first.1 in
    let third = and_parts (rises title_cmp rows.links) (rises category_cmp rows.members) second.1 in
    record {
      templates = ascends title_cmp rows.templates first.0;
      exists = ascends title_cmp rows.exists second.0;
      links = ascends title_cmp rows.links third.0;
      members = ascends category_cmp rows.members third.1;
    }

edit_is_ordered : (edit : TableEdit) → edit_rises edit ≡ true → IsOrdered edit
edit_is_ordered (add_revision row) h = tt
edit_is_ordered (set_page row) h = tt
edit_is_ordered (set_rows page rows) h = rows_ascend rows h
edit_is_ordered (add_job row) h = tt
edit_is_ordered (set_job row) h = tt
edit_is_ordered (drop_job id) h = tt
edit_is_ordered (set_version version) h = tt

pub change_is_ordered : (change : List TableEdit) → change_rises change ≡ true → AreOrdered change
change_is_ordered [] h = tt
change_is_ordered (edit ∷ change) h =
    let parts = and_parts (edit_rises edit) (change_rises change) h in (edit_is_ordered edit parts.0, change_is_ordered change parts.1)

-- ---- each item and the next

suc_plus : (k : ℕ) → suc k + 1 ≡ suc (k + 1)
suc_plus k = omega arith

module _ {X : Type 0} (cmp : X → X → Ordering) (total : IsTotalOrder cmp) where
  -- what is below an item is below all that the item is below
  lower_all : (x y : X) (ys : List X) → is_lt (cmp x y) ≡ true → list_all (λ z. is_lt (cmp y z)) ys ≡ true → list_all (λ z. is_lt (cmp x z)) ys ≡ true
  lower_all x y [] low all = refl
  lower_all x y (z ∷ ys) low all =
      let parts = and_parts (is_lt (cmp y z)) (list_all (λ w. is_lt (cmp y w)) ys) all in
      let here : cmp x z ≡ Less = total.trans x y z (is_less (cmp x y) low) (is_less (cmp y z) parts.0) in
      rw here (lower_all x y ys low parts.1)

  steps_rise : (xs : List X) → AllAdjacentBelow (λ x y. true ≡ is_lt (cmp x y)) xs (length xs) → rises cmp xs ≡ true
  steps_rise [] h = refl
  steps_rise (x ∷ []) h = refl
  steps_rise (x ∷ y ∷ ys) h =
      let low : is_lt (cmp x y) ≡ true = sym (h 0 x (omega arith)) in
      let later = steps_rise (y ∷ ys) (λ k d within. subst (λ n. true ≡ is_lt (cmp (get_or (x ∷ y ∷ ys) (suc k) d) (get_or (x ∷ y ∷ ys) n d))) (suc_plus k) (h (suc k) d (omega arith))) in
      let above = (and_parts (list_all (λ z. is_lt (cmp y z)) ys) (rises cmp ys) later).0 in
      rw (low, lower_all x y ys low above, later) refl

  -- where an item isn't below the next the list doesn't rise
  step_falls : (xs : List X) (k : ℕ) → k + 1 < length xs → ((d : X) → false ≡ is_lt (cmp (get_or xs k d) (get_or xs (k + 1) d))) → rises cmp xs ≡ false
  step_falls [] k within falls = absurd (omega arith)
  step_falls (x ∷ []) k within falls = absurd (omega arith)
  step_falls (x ∷ y ∷ ys) zero within falls = rw (sym (falls x)) refl
  step_falls (x ∷ y ∷ ys) (suc k) within falls =
      let later = step_falls (y ∷ ys) k (omega arith) (λ d. subst (λ n. false ≡ is_lt (cmp (get_or (x ∷ y ∷ ys) (suc k) d) (get_or (x ∷ y ∷ ys) n d))) (suc_plus k) (falls d)) in
      and_second (list_all (λ z. is_lt (cmp x z)) (y ∷ ys)) (rises cmp (y ∷ ys)) later
    where
      and_second : (a b : Bool) → b ≡ false → (a && b) ≡ false
      and_second true b h = h
      and_second false b h = refl

  pub rises_is : (xs : List X) (r : Bool) → IsAllAdjacentAnswer (λ x y b. b ≡ is_lt (cmp x y)) xs r → r ≡ rises cmp xs
  rises_is xs true h = sym (steps_rise xs h)
  rises_is xs false h = sym (step_falls xs h.0 h.1 h.2)

-- ---- a list of what items stand for

pub rises_of : {X Y : Type 0} (f : X → Y) (cmp : Y → Y → Ordering) (xs : List X) → rises cmp (map f xs) ≡ rises (λ a b. cmp (f a) (f b)) xs
rises_of f cmp [] = refl
rises_of f cmp (x ∷ xs) = rw (list_all-map (λ y. is_lt (cmp (f x) y)) f xs, rises_of f cmp xs) refl
