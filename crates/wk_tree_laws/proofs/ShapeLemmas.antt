-- What a shape that fits says of the text.
use Rattle.std.proofs.Common.{◌≡◌, ℕ, suc, ◌+◌, ◌-◌, ◌<◌, ◌==◌, ◌⊎◌, Bool, true, false, if◌then◌else◌, List, [], ◌∷◌, ◌++◌, length, take, drop, replicate, Some, None, option_and_then, refl, ap, sym, ◌∙◌, inl, inr, arith, take-append-drop, eqb-true, one-add, ap₂, length-append}
use Rattle.std.proofs.Math.Seq.{take-append_seam}
use Rattle.std.specs.Cmp.Lexicographic.{same_text}
use Rattle.std.specs.List.{prefix_len, starts_with}
use Rattle.std.specs.Option.{option_or}
use Rattle.wk_text_rules.specs.Shapes.{Shape, exactly, ◌and_then◌, ◌or_else◌}

-- a choice of a value or nothing that gave a value
pub chosen : {X : Type 0} (b : Bool) (x rest : X) → (if b then Some x else None) ≡ Some rest → (b ≡ true) × (x ≡ rest)
chosen true x rest e = (refl, cc)
chosen false x rest e = cc

pub exactly-fits : (word text rest : List ℕ) → exactly word text ≡ Some rest → text ≡ word ++ rest
exactly-fits word text rest e =
    let c = chosen (starts_with (λ a b. a == b) text word) (drop (length word) text) rest e in
    let w : word ≡ take (length word) text = same_text word (take (length word) text) (sym c.0) in
    sym (take-append-drop (length word) text) ∙ ap (λ p. p ++ drop (length word) text) (sym w) ∙ ap (λ p. word ++ p) c.1

pub and_then-fits : {X : Type 0} (f g : Shape X) (text rest : List X) → (f and_then g) text ≡ Some rest → (mid : List X) × (f text ≡ Some mid) × (g mid ≡ Some rest)
and_then-fits f g text rest e =
    (elim (f text) as (λ r. f text ≡ r → option_and_then g r ≡ Some rest → (mid : List _) × (f text ≡ Some mid) × (g mid ≡ Some rest)) [
      | None ↦ λ _ h. cc
      | Some mid ↦ λ s h. (mid, s, h)
    ]) refl e

pub or_else-fits : {X : Type 0} (f g : Shape X) (text rest : List X) → (f or_else g) text ≡ Some rest → (f text ≡ Some rest) ⊎ (g text ≡ Some rest)
or_else-fits f g text rest e =
    (elim (f text) as (λ r. f text ≡ r → option_or r (g text) ≡ Some rest → (f text ≡ Some rest) ⊎ (g text ≡ Some rest)) [
      | None ↦ λ _ h. inr h
      | Some mid ↦ λ s h. inl (s ∙ h)
    ]) refl e

-- ---- runs of one byte

pub take-prefix_len : (m : ℕ) (text : List ℕ) → take (prefix_len (λ b. b == m) text) text ≡ replicate (prefix_len (λ b. b == m) text) m
take-prefix_len m [] = refl
take-prefix_len m (b ∷ text) =
    (elim (b == m) as (λ t. (b == m) ≡ t → take (if t then 1 + prefix_len (λ x. x == m) text else 0) (b ∷ text) ≡ replicate (if t then 1 + prefix_len (λ x. x == m) text else 0) m) [
      | true ↦ λ e. rw one-add (ap₂ (λ x t. x ∷ t) (eqb-true b m e) (take-prefix_len m text))
      | false ↦ λ e. refl
    ]) refl

-- the part that a text has before the rest
pub part-is : (b : ℕ) (bs part rest : List ℕ) → b ∷ bs ≡ part ++ rest → 0 < length part → take (suc (length bs - length rest)) (b ∷ bs) ≡ part
part-is b bs part rest e some =
    let long : suc (length bs) ≡ length part + length rest = ap length e ∙ length-append part rest in
    let n : suc (length bs - length rest) ≡ length part = omega arith in
    ap (λ k. take k (b ∷ bs)) n ∙ ap (λ t. take (length part) t) e ∙ take-append_seam part rest
