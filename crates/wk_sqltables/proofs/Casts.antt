-- What a column makes of the values that the statements write.
use Rattle.std.proofs.Common.{◌≡◌, ℕ, ℤ, pos, eqb, Bool, true, false, ◌&&◌, cond, refl, ◌∙◌, arith}
use Rattle.std.specs.Ordering.{int_eq}
use Rattle.std.proofs.lemmas.Bool.Decides.{nat_tests}
use Rattle.std.proofs.lemmas.Int.{ints}
use Rattle.sqlite_value.specs.declared.keys.Collation.TheVariants.{Binary}
use Rattle.sqlite_value.specs.declared.value.Value.{Value}
use Rattle.sqlite_value.specs.declared.value.Value.TheVariants.{Null, Int}
use Rattle.sqlite_sql.specs.declared.ops.BinaryOp.TheVariants.{Compare}
use Rattle.sqlite_sql.specs.declared.ops.CompareOp.TheVariants.{Eq}
use Rattle.sqlite_sql.specs.Ops.{unary, binary, is_true}
use Rattle.sqlite_schema.specs.declared.schema.Kind.TheVariants.{Integer}
use Rattle.sqlite_rules.specs.Cast.{cast}
use Rattle.sqlite_typed.proofs.TestLemmas.{at_ints}

either : (b : Bool) (x : Value) → cond b x x ≡ x
either true x = refl
either false x = refl

pub cast_null : cast Integer Null ≡ Null
unfolding unary
cast_null = either _ Null

pub cast_int : (n : ℤ) → cast Integer (Int n) ≡ Int n
unfolding unary
cast_int n = either _ (Int n)

int_eq-pos : (a b : ℕ) → int_eq (pos a) (pos b) ≡ eqb a b
int_eq-pos a b = grind (arith, ints, nat_tests)

pub equal_ints : (a b : ℕ) → is_true (binary (Compare Eq Binary) (Int (pos a)) (Int (pos b))) ≡ eqb a b
equal_ints a b = at_ints false Eq (pos a) (pos b) ∙ int_eq-pos a b

pub one_test : (b c : Bool) → b ≡ c → (b && true) ≡ c
one_test true c h = h
one_test false c h = h
