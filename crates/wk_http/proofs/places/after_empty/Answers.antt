use Rattle.std.proofs.Common.{ℕ, [], ◌∷◌, ◌++◌, subst, sym, ◌∙◌}
use Rattle.wk_http.specs.Places.{AreEmptyLines}
use Rattle.wk_http.proofs.PlaceLemmas.{empty_line, empty_returns, method_begins}
use Rattle.wk_http.proofs.places.after_empty.Goals as goal

pub returns-then-byte-eq10 : goal.returns-then-byte-eq10
returns-then-byte-eq10 c = λ bytes ends. subst (λ (b : ℕ). AreEmptyLines (bytes ++ b ∷ []) []) (sym c.if-byte-eq10.true) (empty_line bytes ends)

pub returns-then-byte-eq13 : goal.returns-then-byte-eq13
returns-then-byte-eq13 c = λ bytes ends.
    subst (λ (b : ℕ). AreEmptyLines (bytes ++ b ∷ []) (13 ∷ [])) (sym c.if-byte-eq13.true) (empty_returns bytes ends)

pub returns-then-is_method_token : goal.returns-then-is_method_token
returns-then-is_method_token c = λ bytes ends.
    method_begins bytes c.args.byte (sym c.is_method_token.ensures ∙ c.if-is_method_token.true) ends
