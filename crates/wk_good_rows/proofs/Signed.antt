-- Signed numbers of the machine's, compared as their codes are.
use Rattle.std.proofs.Common.{◌≡◌, ℤ, sym, ap, ◌∙◌, to_z, of_z, w64}
use Rattle.std.specs.Prelude.{nat_eq}
use Rattle.std.specs.Ordering.{int_eq}
use Rattle.std.proofs.lemmas.Bool.{eqb-true, eq-eqb}
use Rattle.std.proofs.lemmas.Bool.Decides.{Decides-int_eq, same_from_decides}

pub eq-signed : (a b : ℤ) → to_z w64 (of_z w64 a) ≡ a → to_z w64 (of_z w64 b) ≡ b → nat_eq (of_z w64 a) (of_z w64 b) ≡ int_eq a b
eq-signed a b same same' =
    same_from_decides {P = a ≡ b} (nat_eq (of_z w64 a) (of_z w64 b)) (int_eq a b)
    (λ t. sym same ∙ ap (to_z w64) (eqb-true (of_z w64 a) (of_z w64 b) t) ∙ same', λ e. eq-eqb (of_z w64 a) (of_z w64 b) (ap (of_z w64) e))
    (Decides-int_eq a b)
