use Rattle.std.proofs.Common.{ℕ, [], ◌∷◌, ◌++◌, subst, sym, ◌∙◌}
use Rattle.wk_wire_rules.specs.Messages.{EndsWithinTarget}
use Rattle.wk_http.proofs.PlaceLemmas.{method_goes_on, target_begins}
use Rattle.wk_http.proofs.places.after_method.Goals as goal

pub returns-then-byte-eq32 : goal.returns-then-byte-eq32
returns-then-byte-eq32 c = λ bytes ends. subst (λ (b : ℕ). EndsWithinTarget (bytes ++ b ∷ [])) (sym c.if-byte-eq32.true) (target_begins bytes ends)

pub returns-then-is_method_token : goal.returns-then-is_method_token
returns-then-is_method_token c = λ bytes ends.
    method_goes_on bytes c.args.byte (sym c.is_method_token.ensures ∙ c.if-is_method_token.true) ends
