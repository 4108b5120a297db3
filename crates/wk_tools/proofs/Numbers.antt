-- Numbers that are gone over one after the other.
use Rattle.std.proofs.Common.{◌≡◌, ℕ, suc, ◌+◌, ◌-◌, ◌≤◌, ◌<◌, List, [], ◌∷◌, ◌++◌, fold, sym, ap, ◌∙◌, arith}
use Rattle.std.specs.Prelude.{flat_map}
use Rattle.std.specs.List.{range_with_len}
use Rattle.std.proofs.lemmas.List.{append-nil, append_assoc}
use Rattle.std.proofs.lemmas.List.Concat.{flat_map-cons}

-- the numbers from one on, below an end
abbrev pub numbers_from : ℕ → ℕ → List ℕ
numbers_from from end = range_with_len from (end - from)

pub numbers-next : (from end : ℕ) → from < end → numbers_from from end ≡ from ∷ numbers_from (from + 1) end
numbers-next from end below =
    let more : end - from ≡ suc (end - (from + 1)) = omega arith in
    ap (range_with_len from) more

pub numbers-none : (from end : ℕ) → end ≤ from → numbers_from from end ≡ []
numbers-none from end past =
    let none : end - from ≡ 0 = omega arith in
    ap (range_with_len from) none

pub fold-next : {A : Type 0} (f : A → ℕ → A) (a b whole : A) (from end : ℕ) → from < end → b ≡ f a from → fold f a (numbers_from from end) ≡ whole → fold f b (numbers_from (from + 1) end) ≡ whole
fold-next f a b whole from end below is before =
    ap (λ x. fold f x (numbers_from (from + 1) end)) is ∙ (sym (ap (fold f a) (numbers-next from end below)) ∙ before)

pub text-next : (f : ℕ → List ℕ) (text now whole : List ℕ) (from end : ℕ) → from < end → now ≡ text ++ f from → text ++ flat_map f (numbers_from from end) ≡ whole → now ++ flat_map f (numbers_from (from + 1) end) ≡ whole
text-next f text now whole from end below is before =
    ap (λ t. t ++ flat_map f (numbers_from (from + 1) end)) is
    ∙ (append_assoc text (f from) (flat_map f (numbers_from (from + 1) end))
    ∙ (ap (λ t. text ++ t) (sym (ap (flat_map f) (numbers-next from end below) ∙ flat_map-cons f from (numbers_from (from + 1) end))) ∙ before))

-- ---- at the end

pub fold-end : {A : Type 0} (f : A → ℕ → A) (a whole : A) (from end : ℕ) → end ≤ from → fold f a (numbers_from from end) ≡ whole → a ≡ whole
fold-end f a whole from end past is = sym (ap (fold f a) (numbers-none from end past)) ∙ is

pub text-end : (f : ℕ → List ℕ) (text whole : List ℕ) (from end : ℕ) → end ≤ from → text ++ flat_map f (numbers_from from end) ≡ whole → text ≡ whole
text-end f text whole from end past is = sym (ap (λ ns. text ++ flat_map f ns) (numbers-none from end past) ∙ append-nil text) ∙ is
