use Rattle.std.proofs.Common.{ℕ, [], ◌∷◌, ◌++◌, subst, sym}
use Rattle.wk_http.specs.Places.{AreLines}
use Rattle.wk_http.proofs.PlaceLemmas.{line_ends_behind_return}
use Rattle.wk_http.proofs.places.after_return.Goals as goal

pub returns-then-byte-eq10 : goal.returns-then-byte-eq10
returns-then-byte-eq10 c = λ bytes ends. subst (λ (b : ℕ). AreLines (bytes ++ b ∷ [])) (sym c.if-byte-eq10.true) (line_ends_behind_return bytes ends)
