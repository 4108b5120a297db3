use Rattle.std.proofs.Common.{ℕ, [], ◌∷◌, ◌++◌, subst, sym, ◌∙◌}
use Rattle.wk_http.specs.Places.{AreLines, EndsInValue}
use Rattle.wk_http.proofs.PlaceLemmas.{line_ends, value_goes_on, value_returns}
use Rattle.wk_http.proofs.places.after_value.Goals as goal

pub returns-then-byte-eq10 : goal.returns-then-byte-eq10
returns-then-byte-eq10 c = λ bytes ends. subst (λ (b : ℕ). AreLines (bytes ++ b ∷ [])) (sym c.if-byte-eq10.true) (line_ends bytes ends)

pub returns-then-byte-eq13 : goal.returns-then-byte-eq13
returns-then-byte-eq13 c = λ bytes ends.
    subst (λ (b : ℕ). EndsInValue (bytes ++ b ∷ []) (13 ∷ [])) (sym c.if-byte-eq13.true) (value_returns bytes ends)

pub returns-then-is_header_value_token : goal.returns-then-is_header_value_token
returns-then-is_header_value_token c = λ bytes ends.
    value_goes_on bytes c.args.byte (sym c.is_header_value_token.ensures ∙ c.if-is_header_value_token.true) ends
