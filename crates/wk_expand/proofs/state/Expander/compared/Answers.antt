use Rattle.std.proofs.Common.{Bool, sym, ap, ◌∙◌}
use Rattle.std.specs.Bool.{if◌then◌else◌}
use Rattle.wk_text_rules.specs.Numerals.{same_output}
use Rattle.wk_view_rules.specs.Expand.{operand}
use Rattle.wk_view_rules.specs.Expansions.{Expansion, Output}
use Rattle.wk_expand.specs.Stack.{parts_at}
use Rattle.wk_expand.proofs.LeadLaws.{leads-in}
use Rattle.wk_expand.proofs.state.Expander.compared.Goals as goal

pub returns-then-equal : goal.returns-then-equal
returns-then-equal c =
    λ seen p h.
    let by : Bool → Expansion Output = λ b. operand p.inner p.viewed p.frame (if b then 3 else 4) (parts_at p) in
    leads-in seen p (by (same_output c.args.first.now c.args.second.now)) (operand p.inner p.viewed p.frame 3 (parts_at p)) c.args.self.now c.operand.result c.args.self.now
    (ap by (sym c.equal.ensures ∙ c.if-equal.true)) (c.operand.ensures seen p h)

pub returns-else-equal : goal.returns-else-equal
returns-else-equal c =
    λ seen p h.
    let by : Bool → Expansion Output = λ b. operand p.inner p.viewed p.frame (if b then 3 else 4) (parts_at p) in
    leads-in seen p (by (same_output c.args.first.now c.args.second.now)) (operand p.inner p.viewed p.frame 4 (parts_at p)) c.args.self.now c.operand-else-equal.result c.args.self.now
    (ap by (sym c.equal.ensures ∙ c.if-equal.false)) (c.operand-else-equal.ensures seen p h)
