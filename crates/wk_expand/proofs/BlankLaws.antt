-- Whether only blank bytes stand behind the colon of a function.
use Rattle.std.proofs.Common.{◌≡◌, ℕ, zero, suc, ◌+◌, ◌-◌, ◌≤◌, Bool, true, false, ◌&&◌, cond, List, [], ◌∷◌, ◌++◌, length, take, drop, reverse, Some, None, if◌then◌else◌, refl, sym, ap, ap₂, subst, ◌∙◌, arith, inl, inr, length-append}
use Rattle.std.specs.List.{list_all, prefix_len, suffix_len}
use Rattle.std.proofs.lemmas.Bool.{cases_Bool}
use Rattle.std.proofs.lemmas.List.{drop-map, take-append-drop, reverse-append, reverse-reverse, length-reverse}
use Rattle.std.proofs.lemmas.List.Folds.{list_all-append, length-prefix_len}
use Rattle.std.proofs.Math.Seq.{take-append_seam}
use Rattle.wk_text_rules.specs.Blank.{is_blank}
use Rattle.wk_text_rules.specs.Marked.{MarkedByte, plain, sealed, byte_of, is_blank_output, is_plain, is_plain_blank, plain_text_of, text_of, trimmed_output, trimmed_output_start}
use Rattle.wk_view_laws.proofs.PlanLemmas.{both_parts}
use Rattle.wk_out.proofs.PlainLaws.{is_blank-some}
use Rattle.wk_func.specs.PlainStart.{plain_start}
use Rattle.wk_expand.proofs.DecideLaws.{place_called, place-in}

-- ---- an output is blank where it is without the plain blank bytes at its ends

front-more : {X : Type 0} (p : X → Bool) (x : X) (xs : List X) (more : Bool) → p x ≡ more → list_all p (take (prefix_len p xs) xs) ≡ true → list_all p (take (cond more (1 + prefix_len p xs) 0) (x ∷ xs)) ≡ true
front-more p x xs true e later =
    let same : suc (prefix_len p xs) ≡ 1 + prefix_len p xs = omega arith in
    subst (λ n. list_all p (take n (x ∷ xs)) ≡ true) same (ap₂ (λ (a b : Bool). a && b) e later)
front-more p x xs false e later = refl

front-passes : {X : Type 0} (p : X → Bool) (xs : List X) → list_all p (take (prefix_len p xs) xs) ≡ true
front-passes p [] = refl
front-passes p (x ∷ xs) = front-more p x xs (p x) refl (front-passes p xs)

without-front : {X : Type 0} (p : X → Bool) (xs : List X) → list_all p (drop (prefix_len p xs) xs) ≡ list_all p xs
without-front p xs =
    let n = prefix_len p xs in
    sym (ap (list_all p) (sym (take-append-drop n xs)) ∙ list_all-append p (take n xs) (drop n xs) ∙ ap (λ b. b && list_all p (drop n xs)) (front-passes p xs))

turned-passes : {X : Type 0} (p : X → Bool) (xs : List X) → list_all p xs ≡ true → list_all p (reverse xs) ≡ true
turned-passes p [] e = refl
turned-passes p (x ∷ xs) e =
    let parts = both_parts (p x) (list_all p xs) e in
    ap (list_all p) (reverse-append (x ∷ []) xs)
    ∙ list_all-append p (reverse xs) (x ∷ [])
    ∙ ap₂ (λ (a b : Bool). a && (b && true)) (turned-passes p xs parts.1) parts.0

and-true : (b : Bool) → (b && true) ≡ b
and-true true = refl
and-true false = refl

-- the end of a list that is turned round is its front
without-turned : {X : Type 0} (p : X → Bool) (r : List X) → list_all p (take (length (reverse r) - prefix_len p r) (reverse r)) ≡ list_all p (reverse r)
without-turned p r =
    let n = prefix_len p r in
    let front = take n r in
    let back = drop n r in
    let both : reverse r ≡ reverse back ++ reverse front = ap reverse (sym (take-append-drop n r)) ∙ reverse-append front back in
    let len : length (reverse r) - n ≡ length (reverse back) =
    omega (arith, ap length both, length-append (reverse back) (reverse front), length-reverse front, length-prefix_len p r)
    in
    let cut : take (length (reverse r) - n) (reverse r) ≡ reverse back =
    ap₂ (λ (k : ℕ) (l : List _). take k l) len both ∙ take-append_seam (reverse back) (reverse front)
    in
    ap (list_all p) cut
    ∙ sym (and-true (list_all p (reverse back)))
    ∙ ap (λ b. list_all p (reverse back) && b) (sym (turned-passes p front (front-passes p r)))
    ∙ sym (list_all-append p (reverse back) (reverse front))
    ∙ ap (list_all p) (sym both)

without-end : {X : Type 0} (p : X → Bool) (xs : List X) → list_all p (take (length xs - suffix_len p xs) xs) ≡ list_all p xs
without-end p xs =
    subst (λ (l : List _). list_all p (take (length l - prefix_len p (reverse xs)) l) ≡ list_all p l) (reverse-reverse xs) (without-turned p (reverse xs))

pub trimmed-blank : (out : List MarkedByte) → is_blank_output (trimmed_output out) ≡ is_blank_output out
trimmed-blank out = without-end is_plain_blank (trimmed_output_start out) ∙ without-front is_plain_blank out

-- ---- what stands behind a place

-- the place is in the plain bytes before the first sealed one
within-start : (out : List MarkedByte) (place : ℕ) → place_called out ≡ Some place → place ≤ length (plain_start out)
within-start out place e = let at = place-in out place e in omega (arith, at.1, at.2)

within-text : (out : List MarkedByte) → length (plain_start out) ≤ length (text_of out)
within-text [] = omega arith
within-text (plain b ∷ out) = let later = within-text out in omega (arith, later)
within-text (sealed b ∷ out) = omega arith

some-test : (test : Bool) (whole text : List ℕ) → Some text ≡ (if test then Some whole else None) → (test ≡ true) × (text ≡ whole)
some-test true whole text e = let same : text ≡ whole = cc in (refl, same)
some-test false whole text e = cc

pub place-within : (out : List MarkedByte) (text : List ℕ) (place : ℕ) → Some text ≡ plain_text_of out → place_called out ≡ Some place → place ≤ length text
place-within out text place e called =
    let same : text ≡ text_of out = (some-test (list_all is_plain out) (text_of out) text e).1 in
    omega (arith, within-start out place called, within-text out, ap length same)

later-passes : {X : Type 0} (p : X → Bool) (n : ℕ) (xs : List X) → list_all p xs ≡ true → list_all p (drop n xs) ≡ true
later-passes p n xs e =
    (both_parts (list_all p (take n xs)) (list_all p (drop n xs)) (sym (list_all-append p (take n xs) (drop n xs)) ∙ ap (list_all p) (take-append-drop n xs) ∙ e)).1

-- where each byte is plain
pub blank-behind : (out : List MarkedByte) (text : List ℕ) (place : ℕ) → Some text ≡ plain_text_of out → is_blank (drop place text) ≡ is_blank_output (trimmed_output (drop place out))
blank-behind out text place e =
    let whole = some-test (list_all is_plain out) (text_of out) text e in
    let rest = drop place out in
    let plainly : list_all is_plain rest ≡ true = later-passes is_plain place out whole.0 in
    let same : text_of rest ≡ drop place text = sym (drop-map byte_of place out) ∙ ap (drop place) (sym whole.1) in
    let found : Some (drop place text) ≡ plain_text_of rest = ap Some (sym same) ∙ ap (λ (b : Bool). if b then Some (text_of rest) else None) (sym plainly) in
    is_blank-some rest (drop place text) found ∙ sym (trimmed-blank rest)

blank-plain : (out : List MarkedByte) → is_blank_output out ≡ true → list_all is_plain out ≡ true
blank-plain [] e = refl
blank-plain (plain b ∷ out) e = blank-plain out (both_parts (is_plain_blank (plain b)) (is_blank_output out) e).1
blank-plain (sealed b ∷ out) e = cc

plain-behind : (out : List MarkedByte) (n : ℕ) → n ≤ length (plain_start out) → is_blank_output (drop n out) ≡ true → list_all is_plain out ≡ true
plain-behind out zero h e = blank-plain out e
plain-behind [] (suc n) h e = refl
plain-behind (plain b ∷ out) (suc n) h e = plain-behind out n (omega (arith, h)) e
plain-behind (sealed b ∷ out) (suc n) h e = absurd (omega (arith, h))

none-test : (test : Bool) (whole : List ℕ) → None ≡ (if test then Some whole else None) → test ≡ false
none-test true whole e = cc
none-test false whole e = refl

-- where one is sealed
pub sealed-behind : (out : List MarkedByte) (place : ℕ) → None ≡ plain_text_of out → place_called out ≡ Some place → false ≡ is_blank_output (trimmed_output (drop place out))
sealed-behind out place e called =
    let some : list_all is_plain out ≡ false = none-test (list_all is_plain out) (text_of out) e in
    elim (cases_Bool (is_blank_output (drop place out))) [
      | inl passes ↦ let all : list_all is_plain out ≡ true = plain-behind out place (within-start out place called) passes in cc
      | inr fails ↦ sym (trimmed-blank (drop place out) ∙ fails)
    ]
