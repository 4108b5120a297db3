-- Lists of what has numbers that rise.
use Rattle.std.proofs.Common.{◌≡◌, ℕ, suc, ℤ, pos, ◌+◌, ◌<ℤ◌, eqb, ltb, nat_lt, List, [], ◌∷◌, ◌++◌, length, slice_set, Bool, true, false, not, ◌||◌, cond, None, Some, refl, sym, ap, subst, ◌∙◌, true≢false, arith, int_cmp, int_eq, Less, Equal, Greater}
use Rattle.std.specs.List.{AllByRecursion, list_all, list_any, position, position_or_len}
use Rattle.std.proofs.lemmas.Bool.{and_parts}
use Rattle.std.proofs.lemmas.Bool.Decides.{nat_tests}
use Rattle.std.proofs.lemmas.Int.{ints}
use Rattle.sqlite_rules.proofs.ListLemmas.{some_has, all_has}
use Rattle.sqlite_keyed.specs.Keyed.{IsKeyedBy, insert_by}
use Rattle.sqlite_keyed.specs.Lists.{without_key}
use Rattle.sqlite_keyed.proofs.ListLemmas.{all_weaker, filter_all}
use Rattle.sqlite_keyed.proofs.KeyedLemmas.{Less-from_lt}

-- ---- the place of the first that passes

pub position_is : {X : Type 0} (p : X → Bool) (xs : List X) (n : ℕ) → position_or_len p xs ≡ n → ltb n (length xs) ≡ true → position p xs ≡ Some n
position_is p xs n is within = rw (is, within) refl

pub position_none : {X : Type 0} (p : X → Bool) (xs : List X) (n : ℕ) → position_or_len p xs ≡ n → ltb n (length xs) ≡ false → position p xs ≡ None
position_none p xs n is past = rw (is, past) refl

one_more : (n : ℕ) → suc n ≡ 1 + n
one_more n = omega arith

set-more : {X : Type 0} (x : X) (xs : List X) (n : ℕ) (new : X) → slice_set (x ∷ xs) (1 + n) new ≡ x ∷ slice_set xs n new
set-more x xs n new = subst (λ k. slice_set (x ∷ xs) k new ≡ x ∷ slice_set xs n new) (one_more n) refl

later_any : (a b : Bool) → a ≡ false → (a || b) ≡ true → b ≡ true
later_any true b is h = absurd (true≢false is)
later_any false b is h = h

module _ {X : Type 0} (p : X → Bool) (new : X) where
  -- the list with the new one in the place of the first that passes
  abbrev pub with_first : List X → List X
  with_first [] = []
  with_first (x ∷ xs) = cond (p x) (new ∷ xs) (x ∷ with_first xs)

  pub first_is : (xs : List X) → list_any p xs ≡ true → (ltb (position_or_len p xs) (length xs) ≡ true) × (slice_set xs (position_or_len p xs) new ≡ with_first xs)
  first_is [] any = absurd (true≢false (sym any))
  first_is (x ∷ xs) any = go (p x) refl (first_is xs)
    where
      go : (b : Bool) → p x ≡ b → (list_any p xs ≡ true → (ltb (position_or_len p xs) (length xs) ≡ true) × (slice_set xs (position_or_len p xs) new ≡ with_first xs)) → (ltb (position_or_len p (x ∷ xs)) (length (x ∷ xs)) ≡ true) × (slice_set (x ∷ xs) (position_or_len p (x ∷ xs)) new ≡ cond b (new ∷ xs) (x ∷ with_first xs))
      go true is more =
          let at : position_or_len p (x ∷ xs) ≡ 0 = rw is refl in
          (subst (λ n. ltb n (length (x ∷ xs)) ≡ true) (sym at) (grind (arith, nat_tests)), ap (λ n. slice_set (x ∷ xs) n new) at)
      go false is more =
          let later = more (later_any (p x) (list_any p xs) is any) in
          let n = position_or_len p xs in
          let at : position_or_len p (x ∷ xs) ≡ 1 + n = rw is refl in
          let within : ltb n (length xs) ≡ true = later.0 in
          (subst (λ n. ltb n (length (x ∷ xs)) ≡ true) (sym at) (grind (arith, nat_tests)), ap (λ n. slice_set (x ∷ xs) n new) at ∙ set-more x xs n new ∙ ap (λ l. x ∷ l) later.1)

none_more : (n m : ℕ) → n ≡ m → 1 + n ≡ suc m
none_more n m h = omega (arith, h)

pub none_passes : {X : Type 0} (p : X → Bool) (xs : List X) → list_any p xs ≡ false → position_or_len p xs ≡ length xs
none_passes p [] none = refl
none_passes p (x ∷ xs) none = go (p x) refl none (none_passes p xs)
  where
    go : (b : Bool) → p x ≡ b → (b || list_any p xs) ≡ false → (list_any p xs ≡ false → position_or_len p xs ≡ length xs) → position_or_len p (x ∷ xs) ≡ length (x ∷ xs)
    go true is h later = absurd (true≢false h)
    go false is h later = let at : position_or_len p (x ∷ xs) ≡ 1 + position_or_len p xs = rw is refl in at ∙ none_more (position_or_len p xs) (length xs) (later h)

-- ---- numbers that rise

module _ {X : Type 0} (key : X → ℕ) where
  abbrev pub number : X → ℤ
  number x = pos (key x)

  abbrev pub is_numbered : ℕ → X → Bool
  is_numbered id x = eqb (key x) id

  lower_is : (x y : X) → nat_lt (key x) (key y) ≡ true → int_cmp (number x) (number y) ≡ Less
  lower_is x y h = grind (arith, ints, nat_tests)

  pub put_last : (new : X) (xs : List X) → list_all (λ x. nat_lt (key x) (key new)) xs ≡ true → insert_by number xs new ≡ xs ++ new ∷ []
  put_last new [] above = refl
  put_last new (x ∷ xs) above =
      let parts = and_parts (nat_lt (key x) (key new)) (list_all (λ x. nat_lt (key x) (key new)) xs) above in rw (lower_is x new parts.0) (ap (λ l. x ∷ l) (put_last new xs parts.1))

  put_first : (new : X) (xs : List X) → AllByRecursion (λ y. number new <ℤ number y) xs → insert_by number xs new ≡ new ∷ xs
  put_first new [] above = refl
  put_first new (y ∷ ys) above = let h = above.0 in let more : int_cmp (number y) (number new) ≡ Greater = grind (arith, ints) in rw more refl

  apart_is : (x y : X) → number x <ℤ number y → not (int_eq (number y) (number x)) ≡ true
  apart_is x y h = grind (arith, ints)

  stay : (x : X) (xs : List X) → AllByRecursion (λ y. number x <ℤ number y) xs → without_key number xs (number x) ≡ xs
  stay x xs above = filter_all (λ y. not (int_eq (number y) (number x))) xs (all_weaker (λ y. number x <ℤ number y) (λ y. not (int_eq (number y) (number x)) ≡ true) (λ y h. apart_is x y h) xs above)

  same_key : (x y : X) → eqb (key x) (key y) ≡ true → key x ≡ key y
  same_key x y h = grind (arith, nat_tests)

  -- where one has the number of the new one, that one goes and the new one comes
  pub replace_one : (new : X) (xs : List X) → IsKeyedBy number xs → list_any (is_numbered (key new)) xs ≡ true
      → insert_by number (without_key number xs (number new)) new ≡ with_first (is_numbered (key new)) new xs
  replace_one new [] up any = absurd (true≢false (sym any))
  replace_one new (x ∷ xs) up any = go (eqb (key x) (key new)) refl (replace_one new xs up.1)
    where
      go : (b : Bool) → eqb (key x) (key new) ≡ b → (list_any (is_numbered (key new)) xs ≡ true → insert_by number (without_key number xs (number new)) new ≡ with_first (is_numbered (key new)) new xs) → insert_by number (without_key number (x ∷ xs) (number new)) new ≡ cond b (new ∷ xs) (x ∷ with_first (is_numbered (key new)) new xs)
      go true is more =
          let same : key x ≡ key new = same_key x new is in
          let hit : int_eq (number x) (number new) ≡ true = grind (arith, ints) in
          let above : AllByRecursion (λ y. number new <ℤ number y) xs = subst (λ n. AllByRecursion (λ y. pos n <ℤ number y) xs) same up.0 in
          rw (hit, stay new xs above, put_first new xs above)
      go false other more =
          let later = later_any (eqb (key x) (key new)) (list_any (is_numbered (key new)) xs) other any in
          let it = some_has (is_numbered (key new)) xs later in
          let low : number x <ℤ number it.0 = all_has (λ y. number x <ℤ number y) xs it.0 up.0 it.1 in
          let same : key it.0 ≡ key new = same_key it.0 new it.2 in
          let below : number x <ℤ number new = subst (λ n. number x <ℤ pos n) same low in
          let miss : int_eq (number x) (number new) ≡ false = grind (arith, ints) in
          rw (miss, Less-from_lt (number x) (number new) below) (ap (λ l. x ∷ l) (more later))

  -- where one has the number of the new one, the new one comes in its place
  pub put_one : (new : X) (xs : List X) → IsKeyedBy number xs → list_any (is_numbered (key new)) xs ≡ true → insert_by number xs new ≡ with_first (is_numbered (key new)) new xs
  put_one new [] up any = absurd (true≢false (sym any))
  put_one new (x ∷ xs) up any = go (eqb (key x) (key new)) refl (put_one new xs up.1)
    where
      go : (b : Bool) → eqb (key x) (key new) ≡ b → (list_any (is_numbered (key new)) xs ≡ true → insert_by number xs new ≡ with_first (is_numbered (key new)) new xs) → insert_by number (x ∷ xs) new ≡ cond b (new ∷ xs) (x ∷ with_first (is_numbered (key new)) new xs)
      go true is more =
          let same : key x ≡ key new = same_key x new is in
          let hit : int_cmp (number x) (number new) ≡ Equal = grind (arith, ints) in
          rw hit refl
      go false other more =
          let later = later_any (eqb (key x) (key new)) (list_any (is_numbered (key new)) xs) other any in
          let it = some_has (is_numbered (key new)) xs later in
          let low : number x <ℤ number it.0 = all_has (λ y. number x <ℤ number y) xs it.0 up.0 it.1 in
          let same : key it.0 ≡ key new = same_key it.0 new it.2 in
          let below : number x <ℤ number new = subst (λ n. number x <ℤ pos n) same low in
          rw (Less-from_lt (number x) (number new) below) (ap (λ l. x ∷ l) (more later))
