use Rattle.std.proofs.Common.{drop, refl, sym, ap, subst, ◌∙◌}
use Rattle.wk_text_rules.specs.Marked.{trimmed_output}
use Rattle.wk_expand.specs.Nodes.{rest_written}
use Rattle.wk_expand.specs.Stack.{IsUse, parts_at}
use Rattle.wk_expand.specs.declared.stack.Use.{Use}
use Rattle.wk_expand.proofs.LeadLaws.{leads-give, leads-in}
use Rattle.wk_expand.proofs.NodeLaws.{by_second}
use Rattle.wk_expand.proofs.state.Expander.used.Goals as goal

pub returns-in-Whole : goal.returns-in-Whole
returns-in-Whole c =
    λ seen p f h k.
    let is = subst (λ (u : Use). IsUse p u f) c.in-Whole.is k in
    leads-give c.args.self.now c.args.node p h seen (f c.args.out) c.args.out c.args.out (is c.args.out) refl

pub returns-in_ok-trimmed-in-Operand : goal.returns-in_ok-trimmed-in-Operand
returns-in_ok-trimmed-in-Operand c =
    λ seen p f h k.
    let is = subst (λ (u : Use). IsUse p u f) c.in-Operand.is k in
    leads-give c.args.self.now c.args.node p h seen (f c.args.out) c.in_ok-trimmed-in-Operand.field-0 (trimmed_output c.args.out) (is c.args.out) c.in_ok-trimmed-in-Operand.ensures

pub returns-in_ok-second-in-Second : goal.returns-in_ok-second-in-Second
returns-in_ok-second-in-Second c =
    λ seen p f h k.
    let is = subst (λ (u : Use). IsUse p u f) c.in-Second.is k in
    let by = by_second p.inner p.viewed p.frame c.in-Second.first (parts_at p) in
    leads-in seen p (f c.args.out) (by c.in_ok-second-in-Second.second) c.args.self.now c.compared.result c.args.self.now
    (is c.args.out ∙ ap by (sym c.in_ok-second-in-Second.ensures)) (c.compared.ensures seen p h)

pub returns-in_ok-written_from-in-Written : goal.returns-in_ok-written_from-in-Written
returns-in_ok-written_from-in-Written c =
    λ seen p f h k.
    let is = subst (λ (u : Use). IsUse p u f) c.in-Written.is k in
    leads-in seen p (f c.args.out) (rest_written p.inner p.viewed p.frame c.args.out (drop c.in-Written.next (parts_at p))) c.args.self.now c.in_ok-written_from-in-Written.field-0 c.args.self.now
    (is c.args.out) (c.in_ok-written_from-in-Written.ensures seen p h)
