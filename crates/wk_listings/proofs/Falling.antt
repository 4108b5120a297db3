-- Revisions below a number, one after the other.
use Rattle.std.proofs.Common.{◌≡◌, ℕ, zero, suc, ◌+◌, ◌-◌, ◌<◌, ◌≤◌, min, Bool, true, false, ◌&&◌, List, [], ◌∷◌, ◌++◌, length, map, take, reverse, Option, Some, None, refl, sym, ap, ◌∙◌, subst, ◌⊎◌, inl, inr, arith}
use Rattle.std.specs.Prelude.{◌==◌, nat_lt, filter, option_map, slice_get, unwrap_or}
use Rattle.std.specs.List.{enumerate_from, last_or}
use Rattle.std.proofs.lemmas.Bool.{cases_Bool, cases_lt, and_parts, and_from, lt-ltb, le-ltb, ltb-true, ne_eqb}
use Rattle.std.proofs.lemmas.List.{append-nil, append_assoc, map-append, reverse-append}
use Rattle.wk_page_rules.specs.History.{History, Revision}
use Rattle.wk_wiki_rules.specs.Entries.{revision_at}
use Rattle.wk_listings.specs.Owners.{falling, is_of, newest, number_before, numbered_at, no_revision, rising}
use Rattle.wk_listings.specs.declared.numbers.Owner.{Owner}
use Rattle.wk_listings.specs.declared.numbers.Owner.TheVariants.{Every}

and-off : (a b : Bool) → b ≡ false → (a && b) ≡ false
and-off true b e = e
and-off false b e = refl

last-cases : {A : Type 0} (y z : A) (l : List A) → last_or (Some y) l ≡ Some z → ((l ≡ []) × (y ≡ z)) ⊎ (last_or None l ≡ Some z)
last-cases y z [] e = inl (refl, cc)
last-cases y z (a ∷ l) e = inr e

-- ---- the last that pass a test and are below a number

module _ {X : Type 0} (q : ℕ × X → Bool) where
  abbrev kept : ℕ → List X → ℕ → List (ℕ × X)
  kept k xs b = filter (λ r. q r && nat_lt r.0 b) (enumerate_from k xs)

  none-kept : (k : ℕ) (xs : List X) (b : ℕ) → b ≤ k → kept k xs b ≡ []
  none-kept k [] b h = refl
  none-kept k (x ∷ xs) b h =
      let later = none-kept (k + 1) xs b (omega (arith, h)) in
      let off : (q (k, x) && nat_lt k b) ≡ false = and-off (q (k, x)) (nat_lt k b) (le-ltb k b h) in
      rw off later

  -- the last of those that are kept stands behind those that are below it
  pub record IsStep (k : ℕ) (xs : List X) (b n : ℕ) (x : X) : Type 0 where
    pub split : kept k xs b ≡ kept k xs n ++ (n, x) ∷ []
    pub from : k ≤ n
    pub below : n < b
    pub here : slice_get xs (n - k) ≡ Some x

  the-last : (k : ℕ) (x : X) (xs : List X) (b : ℕ) → (q (k, x) && nat_lt k b) ≡ true → kept (k + 1) xs b ≡ [] → IsStep k (x ∷ xs) b k x
  the-last k x xs b on empty =
      let left : kept k (x ∷ xs) b ≡ (k, x) ∷ [] = rw on (ap (λ (l : List (ℕ × X)). (k, x) ∷ l) empty) in
      let right : kept k (x ∷ xs) k ≡ [] = none-kept k (x ∷ xs) k (omega arith) in
      let same : k - k ≡ 0 = omega arith in
      record {
        split = left ∙ sym (ap (λ (l : List (ℕ × X)). l ++ (k, x) ∷ []) right);
        from = omega arith;
        below = ltb-true k b (and_parts (q (k, x)) (nat_lt k b) on).1;
        here = rw same refl;
      }

  before-it : (k : ℕ) (x : X) (xs : List X) (b n : ℕ) (y : X) → (q (k, x) && nat_lt k b) ≡ true → IsStep (k + 1) xs b n y → IsStep k (x ∷ xs) b n y
  before-it k x xs b n y on s =
      let within : k < n = omega (arith, s.from) in
      let on_n : (q (k, x) && nat_lt k n) ≡ true = and_from (q (k, x)) (nat_lt k n) (and_parts (q (k, x)) (nat_lt k b) on).0 (lt-ltb k n within) in
      let left : kept k (x ∷ xs) b ≡ (k, x) ∷ (kept (k + 1) xs n ++ (n, y) ∷ []) = rw on (ap (λ (l : List (ℕ × X)). (k, x) ∷ l) s.split) in
      let right : kept k (x ∷ xs) n ≡ (k, x) ∷ kept (k + 1) xs n = rw on_n refl in
      let place : n - k ≡ suc (n - (k + 1)) = omega (arith, within) in
      record {
        split = left ∙ sym (ap (λ (l : List (ℕ × X)). l ++ (n, y) ∷ []) right);
        from = omega (arith, within);
        below = s.below;
        here = rw place s.here;
      }

  passed-by : (k : ℕ) (x : X) (xs : List X) (b n : ℕ) (y : X) → (q (k, x) && nat_lt k b) ≡ false → IsStep (k + 1) xs b n y → IsStep k (x ∷ xs) b n y
  passed-by k x xs b n y off s =
      let within : k < n = omega (arith, s.from) in
      let on_b : nat_lt k b ≡ true = lt-ltb k b (omega (arith, within, s.below)) in
      let none : q (k, x) ≡ false = fails (q (k, x)) (nat_lt k b) on_b off in
      let off_n : (q (k, x) && nat_lt k n) ≡ false = rw none refl in
      let left : kept k (x ∷ xs) b ≡ kept (k + 1) xs n ++ (n, y) ∷ [] = rw off s.split in
      let right : kept k (x ∷ xs) n ≡ kept (k + 1) xs n = rw off_n refl in
      let place : n - k ≡ suc (n - (k + 1)) = omega (arith, within) in
      record {
        split = left ∙ sym (ap (λ (l : List (ℕ × X)). l ++ (n, y) ∷ []) right);
        from = omega (arith, within);
        below = s.below;
        here = rw place s.here;
      }
    where
      fails : (a c : Bool) → c ≡ true → (a && c) ≡ false → a ≡ false
      fails true c e f = absurd (let g : true ≡ false = sym e ∙ f in cc)
      fails false c e f = refl

  step : (k : ℕ) (xs : List X) (b n : ℕ) (y : X) → last_or None (kept k xs b) ≡ Some (n, y) → IsStep k xs b n y
  step k [] b n y e = cc
  step k (x ∷ xs) b n y e =
      let later : last_or None (kept (k + 1) xs b) ≡ Some (n, y) → IsStep (k + 1) xs b n y = step (k + 1) xs b n y in
      elim (cases_Bool (q (k, x) && nat_lt k b)) [
        | inl on ↦ elim (last-cases (k, x) (n, y) (kept (k + 1) xs b) (rw on at e)) [
          | inl here ↦ subst (λ (r : ℕ × X). IsStep k (x ∷ xs) b r.0 r.1) here.1 (the-last k x xs b on here.0)
          | inr more ↦ before-it k x xs b n y on (later more)
        ]
        | inr off ↦ passed-by k x xs b n y off (later (rw off at e))
      ]

some-first : {X : Type 0} (o : Option (ℕ × X)) (n : ℕ) → option_map (λ r. r.0) o ≡ Some n → (x : X) × (o ≡ Some (n, x))
some-first None n e = cc
some-first (Some (k, x)) n e = let f : k ≡ n = cc in (x, ap (λ (j : ℕ). Some (j, x)) f)

last-is-some : {A : Type 0} (y : A) (l : List A) → (z : A) × (last_or (Some y) l ≡ Some z)
last-is-some y [] = (y, refl)
last-is-some y (a ∷ l) = last-is-some a l

none-last : {X : Type 0} (l : List (ℕ × X)) → option_map (λ r. r.0) (last_or None l) ≡ None → l ≡ []
none-last [] e = refl
none-last {X} (y ∷ l) e =
    let z = last-is-some y l in
    let f : option_map (λ (r : ℕ × X). r.0) (last_or (Some y) l) ≡ None = e in
    let g : Some z.0.0 ≡ None = rw z.1 at f in
    cc

take-none : {A : Type 0} (m : ℕ) (l : List A) → l ≡ [] → take m l ≡ []
take-none zero [] e = refl
take-none (suc m) [] e = refl
take-none m (x ∷ l) e = cc

numbered : (h : History) (n : ℕ) (x : Revision) → 1 ≤ n → slice_get h.revisions (n - 1) ≡ Some x → numbered_at h n ≡ (n, x)
numbered h n x some e =
    let there : (n == 0) ≡ false = ne_eqb n 0 (λ f. omega (arith, f, some)) in
    let found : revision_at h n ≡ Some x = rw there e in
    ap (λ (o : Option Revision). (n, unwrap_or o no_revision)) found

-- the newest revision is the first, and the others are those below it
pub falls : (h : History) (owner : Owner) (b n m : ℕ) → newest h owner b ≡ Some n → falling h owner b (suc m) ≡ numbered_at h n ∷ falling h owner n m
falls h owner b n m e =
    let found = some-first (last_or None (rising h owner b)) n e in
    let s : IsStep (is_of owner) 1 h.revisions b n found.0 = step (is_of owner) 1 h.revisions b n found.0 found.1 in
    let at : numbered_at h n ≡ (n, found.0) = numbered h n found.0 s.from s.here in
    let turned : reverse (rising h owner b) ≡ (n, found.0) ∷ reverse (rising h owner n) = ap reverse s.split ∙ reverse-append (rising h owner n) ((n, found.0) ∷ []) in
    ap (take (suc m)) turned ∙ ap (λ (r : ℕ × Revision). r ∷ falling h owner n m) (sym at)

pub ends : (h : History) (owner : Owner) (b m : ℕ) → newest h owner b ≡ None → falling h owner b m ≡ []
ends h owner b m e = take-none m (reverse (rising h owner b)) (ap reverse (none-last (rising h owner b) e))

-- ---- the numbers, as they are gathered

pub goes-on : (h : History) (owner : Owner) (b n m left : ℕ) (ns : List ℕ) (all : List (ℕ × Revision)) → newest h owner b ≡ Some n → left ≡ suc m
    → map (numbered_at h) ns ++ falling h owner b left ≡ all → map (numbered_at h) (ns ++ n ∷ []) ++ falling h owner n m ≡ all
goes-on h owner b n m left ns all e l before =
    let next : falling h owner b left ≡ numbered_at h n ∷ falling h owner n m = rw l (falls h owner b n m e) in
    let grown : map (numbered_at h) (ns ++ n ∷ []) ≡ map (numbered_at h) ns ++ numbered_at h n ∷ [] = map-append (numbered_at h) ns (n ∷ []) in
    ap (λ (xs : List (ℕ × Revision)). xs ++ falling h owner n m) grown
    ∙ append_assoc (map (numbered_at h) ns) (numbered_at h n ∷ []) (falling h owner n m)
    ∙ ap (λ (xs : List (ℕ × Revision)). map (numbered_at h) ns ++ xs) (sym next) ∙ before

pub stops : (h : History) (owner : Owner) (b left : ℕ) (ns : List ℕ) (all : List (ℕ × Revision)) → newest h owner b ≡ None
    → map (numbered_at h) ns ++ falling h owner b left ≡ all → map (numbered_at h) ns ≡ all
stops h owner b left ns all e before =
    sym (append-nil (map (numbered_at h) ns)) ∙ ap (λ (xs : List (ℕ × Revision)). map (numbered_at h) ns ++ xs) (sym (ends h owner b left e)) ∙ before

pub at-end : (h : History) (owner : Owner) (b left : ℕ) (ns : List ℕ) (all : List (ℕ × Revision)) → left ≡ 0
    → map (numbered_at h) ns ++ falling h owner b left ≡ all → map (numbered_at h) ns ≡ all
at-end h owner b left ns all none before =
    let empty : falling h owner b left ≡ [] = rw none refl in
    sym (append-nil (map (numbered_at h) ns)) ∙ ap (λ (xs : List (ℕ × Revision)). map (numbered_at h) ns ++ xs) (sym empty) ∙ before

-- ---- the newest of all

last-of-all : (k : ℕ) (xs : List Revision) (b : ℕ) (o : Option (ℕ × Revision)) → k < b → 0 < length xs
    → option_map (λ (r : ℕ × Revision). r.0) (last_or o (kept (is_of Every) k xs b)) ≡ Some (min b (k + length xs) - 1)
last-of-all k [] b o below some = absurd (omega (arith, some))
last-of-all k (x ∷ []) b o below some =
    let on : nat_lt k b ≡ true = lt-ltb k b below in
    let n : k ≡ min b (k + 1) - 1 = omega (arith, below) in
    rw on (ap Some n)
last-of-all k (x ∷ y ∷ ys) b o below some =
    let later = last-of-all (k + 1) (y ∷ ys) b (Some (k, x)) in
    let on : nat_lt k b ≡ true = lt-ltb k b below in
    let len : length (x ∷ y ∷ ys) ≡ suc (suc (length ys)) = refl in
    elim (cases_lt (k + 1) b) [
      | inl more ↦
          let n : min b ((k + 1) + suc (length ys)) - 1 ≡ min b (k + suc (suc (length ys))) - 1 = ap (λ j. min b j - 1) (omega arith) in
          rw on (later more (omega arith) ∙ ap Some n)
      | inr none ↦
          let n : k ≡ min b (k + suc (suc (length ys))) - 1 = omega (arith, below, none) in
          let empty : kept (is_of Every) (k + 1) (y ∷ ys) b ≡ [] = none-kept (is_of Every) (k + 1) (y ∷ ys) b none in
          rw on (ap (λ l. option_map (λ (r : ℕ × Revision). r.0) (last_or (Some (k, x)) l)) empty ∙ ap Some n)
    ]

newest-in : (xs : List Revision) (b : ℕ) → option_map (λ (r : ℕ × Revision). r.0) (last_or None (kept (is_of Every) 1 xs b)) ≡ number_before (min b (length xs + 1))
newest-in [] b =
    let off : nat_lt 1 (min b (0 + 1)) ≡ false = le-ltb 1 (min b (0 + 1)) (omega arith) in
    rw off refl
newest-in (x ∷ xs) b = elim (cases_lt 1 b) [
  | inl more ↦
      let on : nat_lt 1 (min b (length (x ∷ xs) + 1)) ≡ true = lt-ltb 1 (min b (length (x ∷ xs) + 1)) (omega (arith, more)) in
      let n : 1 + length (x ∷ xs) ≡ length (x ∷ xs) + 1 = omega arith in
      rw on (last-of-all 1 (x ∷ xs) b None more (omega arith) ∙ ap (λ j. Some (min b j - 1)) n)
  | inr none ↦
      let off : nat_lt 1 (min b (length (x ∷ xs) + 1)) ≡ false = le-ltb 1 (min b (length (x ∷ xs) + 1)) (omega (arith, none)) in
      rw off (ap (λ l. option_map (λ (r : ℕ × Revision). r.0) (last_or None l)) (none-kept (is_of Every) 1 (x ∷ xs) b none))
]

pub newest_of_all : (h : History) (b : ℕ) → newest h Every b ≡ number_before (min b (length h.revisions + 1))
newest_of_all h b = newest-in h.revisions b
