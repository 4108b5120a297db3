use Rattle.std.proofs.Common.{ℕ, [], ◌∷◌, ◌++◌, subst, sym}
use Rattle.wk_http.specs.Places.{AreEmptyLines}
use Rattle.wk_http.proofs.PlaceLemmas.{empty_line_behind_return}
use Rattle.wk_http.proofs.places.after_empty_return.Goals as goal

pub returns-then-byte-eq10 : goal.returns-then-byte-eq10
returns-then-byte-eq10 c = λ bytes ends.
    subst (λ (b : ℕ). AreEmptyLines (bytes ++ b ∷ []) []) (sym c.if-byte-eq10.true) (empty_line_behind_return bytes ends)
