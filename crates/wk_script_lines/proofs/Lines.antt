-- Lines with and without bytes.
use Rattle.std.proofs.Common.{◌≡◌, ◌==◌, ℕ, suc, true, false, List, [], ◌∷◌, length, unwrap_or, Some, refl, arith}
use borrow.Author.Tests.{eqb-true}
use Rattle.wk_script_rules.specs.ScriptLines.{empty_line, known_line, script_line, unknown_line}

pub without-bytes : (bytes : List ℕ) → (length bytes == 0) ≡ true → empty_line ≡ script_line (Some bytes)
unfolding script_line
without-bytes [] none = refl
without-bytes (b ∷ bytes) none = let none : suc (length bytes) ≡ 0 = eqb-true _ _ none in absurd (omega arith)

pub with-bytes : (bytes : List ℕ) → (length bytes == 0) ≡ false → unwrap_or (known_line bytes) unknown_line ≡ script_line (Some bytes)
unfolding script_line
with-bytes [] some = absurd (let e : true ≡ false = some in cc)
with-bytes (b ∷ bytes) some = refl
