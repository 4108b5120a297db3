-- The rows of one page stand next to each other among rows in the order of their pages.
use Rattle.std.proofs.Common.{◌≡◌, ◌≢◌, ℕ, zero, suc, ◌-◌, ◌<◌, ◌≤◌, Bool, true, false, cond, eqb, ltb, leb, List, [], ◌∷◌, length, take, drop, refl, sym, ap, ◌∙◌, inl, inr, arith}
use Rattle.std.specs.Prelude.{slice_get}
use Rattle.std.specs.List.{filter, find}
use Rattle.std.specs.List.Sorted.{IsPartitionPoint}
use Rattle.std.proofs.lemmas.Bool.{cases_Bool, ltb-true, leb-true, le-leb, lt-ltb, eq-eqb, ne_eqb, false≢true}

module _ {X : Type 0} (number : X → ℕ) (page : ℕ) where
  abbrev Below : List X → ℕ → Type 0
  Below xs lo = IsPartitionPoint (λ y. ltb (number y) page ≡ true) (λ y. ltb (number y) page ≡ false) xs lo

  abbrev UpTo : List X → ℕ → Type 0
  UpTo xs hi = IsPartitionPoint (λ y. leb (number y) page ≡ true) (λ y. leb (number y) page ≡ false) xs hi

  below-tail : (x : X) (xs : List X) (lo : ℕ) → Below (x ∷ xs) (suc lo) → Below xs lo
  below-tail x xs lo point = (λ k d from under. point.0 (suc k) d (omega arith) (omega arith), λ k d from under. point.1 (suc k) d (omega arith) (omega arith))

  below-none : (x : X) (xs : List X) → Below (x ∷ xs) 0 → Below xs 0
  below-none x xs point = (λ k d from under. absurd (omega arith), λ k d from under. point.1 (suc k) d (omega arith) (omega arith))

  up_to-tail : (x : X) (xs : List X) (hi : ℕ) → UpTo (x ∷ xs) (suc hi) → UpTo xs hi
  up_to-tail x xs hi point = (λ k d from under. point.0 (suc k) d (omega arith) (omega arith), λ k d from under. point.1 (suc k) d (omega arith) (omega arith))

  up_to-none : (x : X) (xs : List X) → UpTo (x ∷ xs) 0 → UpTo xs 0
  up_to-none x xs point = (λ k d from under. absurd (omega arith), λ k d from under. point.1 (suc k) d (omega arith) (omega arith))

  -- what is below the page is up to it
  low-then-up : (n : ℕ) → ltb n page ≡ true → leb n page ≡ false → ⊥
  low-then-up n low high =
      let under : n < page = ltb-true n page low in
      false≢true (sym high ∙ le-leb n page (omega arith))

  pub run-is_forward : (xs : List X) (lo hi : ℕ) → Below xs lo → UpTo xs hi → lo ≤ length xs → lo ≤ hi
  run-is_forward [] lo hi below up within = omega arith
  run-is_forward (x ∷ xs) zero hi below up within = omega arith
  run-is_forward (x ∷ xs) (suc lo) zero below up within = absurd (low-then-up (number x) (below.0 0 x (omega arith) (omega arith)) (up.1 0 x (omega arith) (omega arith)))
  run-is_forward (x ∷ xs) (suc lo) (suc hi) below up within =
      let under : lo ≤ hi = run-is_forward xs lo hi (below-tail x xs lo below) (up_to-tail x xs hi up) (omega arith) in omega arith

  other : (x : X) → (number x ≡ page → ⊥) → eqb (number x) page ≡ false
  other x apart = ne_eqb (number x) page apart

  pub run-is_own : (xs : List X) (lo hi : ℕ) → Below xs lo → UpTo xs hi → lo ≤ length xs → hi ≤ length xs → filter (λ y. eqb (number y) page) xs ≡ take (hi - lo) (drop lo xs)
  run-is_own [] zero zero below up low high = refl
  run-is_own [] (suc lo) hi below up low high = absurd (omega arith)
  run-is_own [] zero (suc hi) below up low high = absurd (omega arith)
  run-is_own (x ∷ xs) zero zero below up low high =
      let past : leb (number x) page ≡ false = up.1 0 x (omega arith) (omega arith) in
      let apart : eqb (number x) page ≡ false = other x (λ same. false≢true (sym past ∙ le-leb (number x) page (omega arith))) in
      ap (λ b. cond b (x ∷ filter (λ y. eqb (number y) page) xs) (filter (λ y. eqb (number y) page) xs)) apart
      ∙ run-is_own xs 0 0 (below-none x xs below) (up_to-none x xs up) (omega arith) (omega arith)
  run-is_own (x ∷ xs) zero (suc hi) below up low high =
      let from : ltb (number x) page ≡ false = below.1 0 x (omega arith) (omega arith) in
      let to : number x ≤ page = leb-true (number x) page (up.0 0 x (omega arith) (omega arith)) in
      let same : eqb (number x) page ≡ true = elim (cases_Bool (eqb (number x) page)) [
        | inl holds ↦ holds
        | inr fails ↦ absurd (false≢true (sym from ∙ lt-ltb (number x) page (let ne : number x ≢ page = λ e. false≢true (sym fails ∙ eq-eqb (number x) page e) in omega arith)))
      ] in
      let all : suc hi - 0 ≡ suc hi = omega arith in
      let rest : hi - 0 ≡ hi = omega arith in
      ap (λ b. cond b (x ∷ filter (λ y. eqb (number y) page) xs) (filter (λ y. eqb (number y) page) xs)) same
      ∙ ap (λ l. x ∷ l) (run-is_own xs 0 hi (below-none x xs below) (up_to-tail x xs hi up) (omega arith) (omega arith) ∙ ap (λ n. take n xs) rest)
      ∙ ap (λ n. take n (x ∷ xs)) (sym all)
  run-is_own (x ∷ xs) (suc lo) zero below up low high =
      absurd (low-then-up (number x) (below.0 0 x (omega arith) (omega arith)) (up.1 0 x (omega arith) (omega arith)))
  run-is_own (x ∷ xs) (suc lo) (suc hi) below up low high =
      let under : number x < page = ltb-true (number x) page (below.0 0 x (omega arith) (omega arith)) in
      let apart : eqb (number x) page ≡ false = other x (λ same. omega arith) in
      let len : suc hi - suc lo ≡ hi - lo = omega arith in
      ap (λ b. cond b (x ∷ filter (λ y. eqb (number y) page) xs) (filter (λ y. eqb (number y) page) xs)) apart
      ∙ run-is_own xs lo hi (below-tail x xs lo below) (up_to-tail x xs hi up) (omega arith) (omega arith)
      ∙ ap (λ n. take n (drop lo xs)) (sym len)

-- what is found first is the first of those that pass
pub find-first : {X : Type 0} (p : X → Bool) (xs : List X) → find p xs ≡ slice_get (filter p xs) 0
find-first p [] = refl
find-first p (x ∷ xs) = elim (cases_Bool (p x)) [
  | inl passes ↦ rw passes refl
  | inr fails ↦ rw fails (find-first p xs)
]
