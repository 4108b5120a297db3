use Rattle.std.proofs.Common.{◌++◌, None, Some, refl, sym, ap, arith, ◌∙◌}
use Rattle.std.proofs.lemmas.Option.{slice_get_past}
use Rattle.wk_text_rules.specs.Marked.{trimmed_output}
use Rattle.wk_view_rules.specs.Expand.{function_output, whole_part}
use Rattle.wk_view_rules.specs.Expansions.{Expansion, Output, ◌>>=◌}
use Rattle.wk_view_rules.specs.declared.Func.TheVariants.{IfEq}
use Rattle.wk_expand.specs.Stack.{parts_at, whole_behind}
use Rattle.wk_expand.proofs.LeadLaws.{leads-in, part-requires, part-within, parts-past}
use Rattle.wk_expand.proofs.NodeLaws.{by_second, equality-is, operand-by, then_trimmed}
use Rattle.wk_expand.proofs.WrittenLaws.{bind-same, regrouped}
use Rattle.wk_expand.proofs.state.Expander.equality.Goals as goal

pub returns-then-parts-eq0 : goal.returns-then-parts-eq0
returns-then-parts-eq0 c =
    λ seen p h.
    let second = by_second p.inner p.viewed p.frame c.args.first (parts_at p) in
    let past = parts-past c.args.self.now c.args.node p h c.tree.result.now c.parts.result 0 c.tree.ensures c.parts.ensures (omega (arith, c.if-parts-eq0.true)) in
    leads-in seen p (function_output p.inner p.viewed p.frame IfEq c.args.first (parts_at p)) (second c.new-none.result) c.args.self.now c.compared.result c.args.self.now
    (equality-is p.inner p.viewed p.frame c.args.first (parts_at p)
    ∙ ap (λ (x : Expansion Output). x >>= second) (operand-by p.inner p.viewed p.frame 2 (parts_at p) None (slice_get_past (parts_at p) 0 past))
    ∙ ap second (sym c.new-none.ensures))
    (c.compared.ensures seen p h)

pub whole-requires : goal.whole-requires
whole-requires c = part-requires c.args.self.now c.args.node c.tree.result.now c.parts.result 0 c.tree.ensures c.parts.ensures c.requires (omega (arith, c.if-parts-eq0.false))

pub returns : goal.returns
returns c =
    λ seen p h.
    let second = by_second p.inner p.viewed p.frame c.args.first (parts_at p) in
    let q = part-within c.args.self.now c.args.node p h c.tree.result.now c.parts.result 0 c.tree.ensures c.parts.ensures (omega (arith, c.if-parts-eq0.false)) in
    let before = c.new-before.result in
    let f : Output → Expansion Output = λ out. second (trimmed_output out) in
    let whole = whole_part p.inner p.viewed p.frame q.0 in
    leads-in seen p (function_output p.inner p.viewed p.frame IfEq c.args.first (parts_at p)) (whole_behind p q.0 before f) c.args.self.now c.whole.result c.args.self.now
    (equality-is p.inner p.viewed p.frame c.args.first (parts_at p)
    ∙ ap (λ (x : Expansion Output). x >>= second) (operand-by p.inner p.viewed p.frame 2 (parts_at p) (Some q.0) q.1)
    ∙ regrouped whole (then_trimmed p.inner p.viewed p.frame) second
    ∙ bind-same whole f (λ out. f (before ++ out)) (λ out. ap (λ (b : Output). f (b ++ out)) (sym c.new-before.ensures)))
    (c.whole.ensures seen p q.0 f h q.1 (λ out. refl))
