-- Where the rows of a page are taken out of a list and others are put behind it, its order is that of `with_rows_of`.
use Rattle.std.proofs.Common.{◌≡◌, ℕ, zero, suc, ◌+◌, nat_lt, append-nil, add-one, eqb, ltb, List, [], ◌∷◌, ◌++◌, filter, Bool, true, false, not, cond, arith, refl, sym, ap, subst, ◌∙◌, true≢false, Ordering, Less, Equal, Greater, is_lt, is_gt, IsPermutation, IsSorted}
use Rattle.std.specs.List.{AllByRecursion, insert_slice, position_or_len}
use Rattle.std.specs.Cmp.{IsTotalOrder}
use Rattle.std.specs.Ordering.{ordering_reverse}
use Rattle.std.proofs.lemmas.Cmp.{upto}
use Rattle.std.proofs.lemmas.Bool.Decides.{nat_tests}
use Rattle.std.proofs.lemmas.List.Sorted.{IsPermutation-refl, IsPermutation-cons, IsPermutation-trans, IsPermutation-sym, IsPermutation-append, IsPermutation-append_comm}
use Rattle.sqlite_value.specs.Order.{Row}
use Rattle.sqlite_trees.specs.Tree.{IsAscending}
use Rattle.sqlite_keyed.specs.Lists.{sort_by, insert_sorted}
use Rattle.sqlite_keyed.proofs.SortLemmas.{sorted_unique, IsPermutation-sort_by}
use Rattle.sqlite.specs.State.{State}
use Rattle.wk_table_rules.specs.Changes.{with_rows_of}
use Rattle.wk_sqltables.specs.Held.{AreListed, IsInStore, KeepsBut, RewritesAll}
use Rattle.wk_sqltables.proofs.Frames.{keeps_on}
use Rattle.sqlite_keyed.proofs.ListLemmas.{all_weaker, ascending-filter, ascending-append, IsPermutation-filter, all-append}

module _ {X : Type 0} (from : X → ℕ) where
  -- the rows of a page before the first row of a higher one
  unfoldable pub put_in : ℕ → List X → List X → List X
  put_in page new [] = new
  put_in page new (x ∷ xs) = cond (nat_lt page (from x)) (new ++ x ∷ xs) (x ∷ put_in page new xs)

  cons_slice : (x : X) (xs : List X) (n : ℕ) (new : List X) → insert_slice (x ∷ xs) (1 + n) new ≡ x ∷ insert_slice xs n new
  cons_slice x xs n new = subst (λ k. insert_slice (x ∷ xs) k new ≡ x ∷ insert_slice xs n new) one_more refl
    where
      one_more : suc n ≡ 1 + n
      one_more = omega arith

  pub put_in_is : (page : ℕ) (new xs : List X) → insert_slice xs (position_or_len (λ x. nat_lt page (from x)) xs) new ≡ put_in page new xs
  unfolding put_in
  put_in_is page new [] = append-nil new
  put_in_is page new (x ∷ xs) = go (nat_lt page (from x)) refl (put_in_is page new xs)
    where
      go : (b : Bool) → nat_lt page (from x) ≡ b → insert_slice xs (position_or_len (λ x. nat_lt page (from x)) xs) new ≡ put_in page new xs
          → insert_slice (x ∷ xs) (position_or_len (λ x. nat_lt page (from x)) (x ∷ xs)) new ≡ cond b (new ++ x ∷ xs) (x ∷ put_in page new xs)
      go true is later = rw is refl
      go false is later = rw is (cons_slice x xs (position_or_len (λ x. nat_lt page (from x)) xs) new ∙ ap (λ l. x ∷ l) later)

  abbrev pub other : ℕ → X → Bool
  other page x = not (eqb (from x) page)

  not_true : (b : Bool) → not b ≡ true → b ≡ false
  not_true true h = absurd (true≢false (sym h))
  not_true false h = refl

  pub others_are : (page : ℕ) (xs : List X) → AllByRecursion (λ x. eqb (from x) page ≡ false) (filter (other page) xs)
  others_are page [] = tt
  others_are page (x ∷ xs) = go (eqb (from x) page) refl (others_are page xs)
    where
      go : (b : Bool) → eqb (from x) page ≡ b → AllByRecursion (λ x. eqb (from x) page ≡ false) (filter (other page) xs) → AllByRecursion (λ x. eqb (from x) page ≡ false) (cond (not b) (x ∷ filter (other page) xs) (filter (other page) xs))
      go true is later = later
      go false is later = (is, later)

module _ {X : Type 0} (cmp : X → X → Ordering) (total : IsTotalOrder cmp) (from : X → ℕ) (by_from : (a b : X) → ltb (from a) (from b) ≡ true → cmp a b ≡ Less) where
  abbrev Rises : List X → Type 0
  Rises = IsAscending (λ a b. cmp a b ≡ Less)

  abbrev AtMost : X → X → Type 0
  AtMost a b = is_gt (cmp a b) ≡ false

  turned : (o : Ordering) → is_gt o ≡ false → is_lt (ordering_reverse o) ≡ false
  turned Less h = refl
  turned Equal h = refl
  turned Greater h = h

  all_insert : (P : X → Type 0) (new : X) (xs : List X) → P new → AllByRecursion P xs → AllByRecursion P (insert_sorted cmp new xs)
  all_insert P new [] h all = (h, tt)
  all_insert P new (x ∷ xs) h all = go (is_gt (cmp new x)) (all_insert P new xs h all.1)
    where
      go : (b : Bool) → AllByRecursion P (insert_sorted cmp new xs) → AllByRecursion P (cond b (x ∷ insert_sorted cmp new xs) (new ∷ x ∷ xs))
      go true later = (all.0, later)
      go false later = (h, all)

  insert_up : (new : X) (xs : List X) → IsAscending AtMost xs → IsAscending AtMost (insert_sorted cmp new xs)
  insert_up new [] up = (tt, tt)
  insert_up new (x ∷ xs) up = go (cmp new x) refl (insert_up new xs up.1)
    where
      go : (o : Ordering) → cmp new x ≡ o → IsAscending AtMost (insert_sorted cmp new xs) → IsAscending AtMost (cond (is_gt o) (x ∷ insert_sorted cmp new xs) (new ∷ x ∷ xs))
      go Greater is later = (all_insert (AtMost x) new xs (ap is_gt (total.antisymm x new ∙ ap ordering_reverse is)) up.0, later)
      go Less is later = let first : AtMost new x = ap is_gt is in ((first, all_weaker (AtMost x) (AtMost new) (λ z. upto total new x z first) xs up.0), up)
      go Equal is later = let first : AtMost new x = ap is_gt is in ((first, all_weaker (AtMost x) (AtMost new) (λ z. upto total new x z first) xs up.0), up)

  sort_up : (xs : List X) → IsAscending AtMost (sort_by cmp xs)
  sort_up [] = tt
  sort_up (x ∷ xs) = insert_up x (sort_by cmp xs) (sort_up xs)

  rising_sorted : (xs : List X) → IsAscending AtMost xs → IsSorted cmp xs
  rising_sorted [] up k d low high = absurd (omega (arith, high))
  rising_sorted (x ∷ []) up k d low high = absurd (omega (arith, high))
  rising_sorted (x ∷ y ∷ xs) up zero d low high = ap is_lt (total.antisymm y x) ∙ turned (cmp x y) up.0.0
  rising_sorted (x ∷ y ∷ xs) up (suc k) d low high = rw add-one (rw add-one at (rising_sorted (y ∷ xs) up.1 k d (omega arith) (omega (arith, high))))

  all_put : (P : X → Type 0) (page : ℕ) (new xs : List X) → AllByRecursion P new → AllByRecursion P xs → AllByRecursion P (put_in from page new xs)
  unfolding put_in
  all_put P page new [] h k = h
  all_put P page new (x ∷ xs) h k = go (nat_lt page (from x)) (all_put P page new xs h k.1)
    where
      go : (b : Bool) → AllByRecursion P (put_in from page new xs) → AllByRecursion P (cond b (new ++ x ∷ xs) (x ∷ put_in from page new xs))
      go true later = all-append P new (x ∷ xs) h k
      go false later = (k.0, later)

  -- what is put in keeps the order
  put_rises : (page : ℕ) (new xs : List X) → Rises new → Rises xs → AllByRecursion (λ x. from x ≡ page) new → AllByRecursion (λ x. eqb (from x) page ≡ false) xs → Rises (put_in from page new xs)
  unfolding put_in
  put_rises page new [] fresh up of_page others = fresh
  put_rises page new (x ∷ xs) fresh up of_page others = go (nat_lt page (from x)) refl (put_rises page new xs fresh up.1 of_page others.1)
    where
      go : (b : Bool) → nat_lt page (from x) ≡ b → Rises (put_in from page new xs) → Rises (cond b (new ++ x ∷ xs) (x ∷ put_in from page new xs))
      go true is later = ascending-append (λ a b. cmp a b ≡ Less) new (x ∷ xs) fresh up (all_weaker (λ n. from n ≡ page) (λ n. AllByRecursion (λ y. cmp n y ≡ Less) (x ∷ xs)) (λ n e. let first = by_from n x (rw e is) in (first, all_weaker (λ y. cmp x y ≡ Less) (λ y. cmp n y ≡ Less) (λ y k. total.trans n x y first k) xs up.0)) new of_page)
      go false is later =
          let lower : ltb (from x) page ≡ true = let apart = others.0 in grind (arith, nat_tests) in
          (all_put (λ y. cmp x y ≡ Less) page new xs (all_weaker (λ n. from n ≡ page) (λ n. cmp x n ≡ Less) (λ n e. by_from x n (rw e lower)) new of_page) up.0, later)

  put_permutes : (page : ℕ) (new xs : List X) → IsPermutation (put_in from page new xs) (xs ++ new)
  unfolding put_in
  put_permutes page new [] = IsPermutation-refl new
  put_permutes page new (x ∷ xs) = go (nat_lt page (from x)) (put_permutes page new xs)
    where
      go : (b : Bool) → IsPermutation (put_in from page new xs) (xs ++ new) → IsPermutation (cond b (new ++ x ∷ xs) (x ∷ put_in from page new xs)) (x ∷ xs ++ new)
      go true later = IsPermutation-append_comm new (x ∷ xs)
      go false later = IsPermutation-cons x _ _ later

  abbrev sorted : List X → List X
  sorted xs = sort_by cmp xs

  module _ (page : ℕ) (new xs : List X) (fresh : Rises new) (of_page : AllByRecursion (λ x. from x ≡ page) new) (up : Rises (sorted xs)) where
    then_rises : Rises (put_in from page new (filter (other from page) (sorted xs)))
    then_rises = put_rises page new (filter (other from page) (sorted xs)) fresh (ascending-filter (λ a b. cmp a b ≡ Less) (other from page) (sorted xs) up) of_page (others_are from page (sorted xs))

    then_permutes : IsPermutation (put_in from page new (filter (other from page) (sorted xs))) (filter (other from page) xs ++ new)
    then_permutes = IsPermutation-trans _ _ _ (put_permutes page new (filter (other from page) (sorted xs))) (IsPermutation-append _ _ _ _ (IsPermutation-filter (other from page) _ _ (IsPermutation-sort_by cmp total xs)) (IsPermutation-refl new))

    -- So the rows of the page are replaced in the sorted list, and it has no ties again.
    pub then_sorted : sorted (filter (other from page) xs ++ new) ≡ insert_slice (filter (other from page) (sorted xs)) (position_or_len (λ x. nat_lt page (from x)) (filter (other from page) (sorted xs))) new
    then_sorted =
        let after = filter (other from page) xs ++ new in
        sorted_unique cmp total (put_in from page new (filter (other from page) (sorted xs))) (sorted after) then_rises
        (IsPermutation-trans _ _ _ then_permutes (IsPermutation-sym _ _ (IsPermutation-sort_by cmp total after))) (rising_sorted (sorted after) (sort_up after))
        ∙ sym (put_in_is from page new (filter (other from page) (sorted xs)))

    pub again_rises : Rises (sorted (filter (other from page) xs ++ new))
    again_rises = subst Rises (sym (then_sorted ∙ put_in_is from page new (filter (other from page) (sorted xs)))) then_rises

-- The rows of a page go and others come: the table is then listed with those as all rows of the page.
module _ {X : Type 0} (values : X → Row) (cmp : X → X → Ordering) (total : IsTotalOrder cmp) (from : X → ℕ) (by_from : (a b : X) → ltb (from a) (from b) ≡ true → cmp a b ≡ Less) (tree : ℕ) where
  pub record IsReplaced (old new : State) (items : List X) : Type 0 where
    pub in_store : IsInStore new
    pub items_are : AreListed values cmp (new.now.trees tree) items
    pub others : KeepsBut tree old.now.trees new.now.trees

  pub replaced : (old mid new : State) (page : ℕ) (rows : List X) → IsAscending (λ a b. cmp a b ≡ Less) rows → AllByRecursion (λ x. from x ≡ page) rows
      → RewritesAll tree values (filter (λ x. not (eqb (from x) page))) old mid → RewritesAll tree values (λ items. items ++ rows) mid new
      → IsInStore old → (items : List X) → AreListed values cmp (old.now.trees tree) items → IsReplaced old new (with_rows_of from page items rows)
  replaced old mid new page rows fresh of_page drops adds in_store items was =
      let stored = was.stored in
      let left = filter (λ x. not (eqb (from x) page)) stored in
      let first = drops stored in_store was.stored_are in
      let second = adds left first.in_store first.items_are in
      let up : IsAscending (λ a b. cmp a b ≡ Less) (sort_by cmp stored) = subst (IsAscending (λ a b. cmp a b ≡ Less)) was.items_are was.apart in
      let is : with_rows_of from page items rows ≡ sort_by cmp (left ++ rows) =
      ap (λ l. with_rows_of from page l rows) was.items_are ∙ sym (then_sorted cmp total from by_from page rows stored fresh of_page up) in
      record {
        in_store = second.in_store;
        items_are = record {
          stored = left ++ rows;
          stored_are = second.items_are;
          items_are = is;
          apart = subst (IsAscending (λ a b. cmp a b ≡ Less)) (sym is) (again_rises cmp total from by_from page rows stored fresh of_page up);
        };
        others = keeps_on tree old.now.trees mid.now.trees new.now.trees first.others second.others;
      }
