-- The nodes that are open, as the code keeps them, with the innermost last.
use Rattle.std.proofs.Common.{◌≡◌, ℕ, ◌+◌, ◌<◌, ◌≤◌, Bool, true, false, List, [], ◌∷◌, ◌++◌, length, drop, get_or, reverse, Option, Some, None, refl, sym, ap, ap₂, arith, ◌∙◌}
use Rattle.std.specs.Prelude.{◌||◌}
use Rattle.std.specs.declared.vec.Vec.{Vec}
use Rattle.std.specs.List.{list_any}
use Rattle.std.specs.Option.{MatchOption, option_to_list}
use Rattle.std.specs.Vec.{vec_len}
use Rattle.std.proofs.lemmas.List.{drop_all, reverse-append, length-append}
use Rattle.std.proofs.lemmas.Option.{slice_get-get_or}
use Rattle.std.proofs.lemmas.List.Folds.{list_any-append}
use Rattle.wk_text_rules.specs.Titles.{PageTitle}
use Rattle.wk_subst.specs.Stack.{IsPopped, any_title, titles_of, within_of}
use Rattle.wk_subst.specs.declared.stack.Opened.{Opened}
use Rattle.wk_subst.proofs.NodeLaws.{drop-some}

or-swapped : (a b : Bool) → (a || b) ≡ (b || a)
or-swapped true true = refl
or-swapped true false = refl
or-swapped false true = refl
or-swapped false false = refl

or-none : (a : Bool) → (a || false) ≡ a
or-none true = refl
or-none false = refl

pub any-reversed : {X : Type 0} (p : X → Bool) (xs : List X) → list_any p (reverse xs) ≡ list_any p xs
any-reversed p [] = refl
any-reversed p (x ∷ xs) =
    ap (list_any p) (reverse-append (x ∷ []) xs)
    ∙ list_any-append p (reverse xs) (x ∷ [])
    ∙ or-swapped (list_any p (reverse xs)) (list_any p (x ∷ []))
    ∙ ap₂ (λ (a b : Bool). a || b) (or-none (p x)) (any-reversed p xs)

pub any-within : (p : PageTitle → Bool) (opened : List Opened) → list_any (any_title p) opened ≡ list_any p (within_of opened)
any-within p [] = refl
any-within p (o ∷ opened) = ap (λ (b : Bool). any_title p o || b) (any-within p opened) ∙ sym (list_any-append p (titles_of o.waiting) (within_of opened))

pub is-within : (p : PageTitle → Bool) (kept : List Opened) → list_any (any_title p) kept ≡ list_any p (within_of (reverse kept))
is-within p kept = sym (any-reversed (any_title p) kept) ∙ any-within p (reverse kept)

-- ---- how many calls are open

-- the calls among the nodes before a place
pub record IsTold (opened : List Opened) (at count : ℕ) : Type 0 where
  pub same : count + length (within_of (drop at opened)) ≡ length (within_of opened)
  pub least : count ≤ at

pub told-more : (opened : List Opened) (at count one : ℕ) (d : Opened) → at < length opened → one ≡ length (titles_of (get_or opened at d).waiting) → one ≤ 1 → IsTold opened at count → IsTold opened (at + 1) (count + one)
told-more opened at count one d within is most h =
    let o = get_or opened at d in
    let rest = drop (at + 1) opened in
    let split : length (within_of (drop at opened)) ≡ length (titles_of o.waiting ++ within_of rest) = ap (λ (os : List Opened). length (within_of os)) (drop-some opened at o (slice_get-get_or opened at d within)) in
    record {
      same = omega (arith, h.same, split, length-append (titles_of o.waiting) (within_of rest), is);
      least = omega (arith, h.least, most);
    }

pub told-all : (opened : List Opened) (at count : ℕ) → length opened ≤ at → IsTold opened at count → count ≡ length (within_of opened)
told-all opened at count past h =
    let none : length (within_of (drop at opened)) ≡ 0 = ap (λ (os : List Opened). length (within_of os)) (drop_all at opened past) in
    omega (arith, h.same, none)

within-append : (xs ys : List Opened) → length (within_of (xs ++ ys)) ≡ length (within_of xs) + length (within_of ys)
within-append [] ys = omega arith
within-append (x ∷ xs) ys = omega (arith, length-append (titles_of x.waiting) (within_of (xs ++ ys)), length-append (titles_of x.waiting) (within_of xs), within-append xs ys)

pub is-calls : (kept : List Opened) → length (within_of kept) ≡ length (within_of (reverse kept))
is-calls [] = refl
is-calls (x ∷ xs) =
    let turned : length (within_of (reverse (x ∷ xs))) ≡ length (within_of (reverse xs ++ x ∷ [])) = ap (λ (os : List Opened). length (within_of os)) (reverse-append (x ∷ []) xs) in
    omega (arith, turned, within-append (reverse xs) (x ∷ []), length-append (titles_of x.waiting) (within_of xs), length-append (titles_of x.waiting) [], is-calls xs)

-- ---- the innermost node

none-there : {X : Type 0} (xs : List X) → length xs ≡ 0 → xs ≡ []
none-there [] e = refl
none-there (x ∷ xs) e = absurd (omega (arith, e))

pub popped : {Z : Type 0} (v u : Vec Opened Z) (r : Option Opened) → v.items ≡ u.items ++ option_to_list r → MatchOption r ((vec_len v ≡ 0) × (vec_len u ≡ 0)) (λ _. vec_len u + 1 ≡ vec_len v) → IsPopped r (reverse v.items) (reverse u.items)
popped v u None items cases = ap reverse (none-there v.items (sym v.ok.0 ∙ cases.0))
popped v u (Some o) items cases = ap reverse items ∙ reverse-append u.items (o ∷ [])
