use Rattle.std.proofs.Common.{◌≡◌, ◌<◌, ◌≤◌, ◌-◌, ◌++◌, [], length, Some, None, refl, sym, ap, subst, ◌∙◌}
use Rattle.std.proofs.lemmas.Option.{slice_get_past}
use Rattle.wk_tree.specs.Parsed.{node_with, part_with}
use Rattle.wk_tree_rules.specs.Tree.{further_parts}
use Rattle.wk_view_rules.specs.Expand.{operand, whole_part}
use Rattle.wk_view_rules.specs.Expansions.{Output, ◌>>=◌}
use Rattle.wk_expand.specs.Stack.{parts_at}
use Rattle.wk_expand.specs.State.{current}
use Rattle.wk_expand.proofs.LeadLaws.{count-here, leads-give, leads-in}
use Rattle.wk_expand.proofs.NodeLaws.{count-is, operand-by, part-of, some_within, then_trimmed}
use Rattle.wk_expand.proofs.PartLaws.{some_of, some_part}
use Rattle.wk_expand.proofs.WrittenLaws.{bind-same}
use Rattle.wk_expand.proofs.state.Expander.operand.Goals as goal

pub returns-then-parts-at : goal.returns-then-parts-at
returns-then-parts-at c =
    λ seen p h.
    let count : c.parts.result ≡ length (parts_at p) = count-here c.args.self.now c.args.node p h c.tree.result.now c.parts.result c.tree.ensures c.parts.ensures in
    let past : length (parts_at p) ≤ c.args.n - 2 = subst (λ k. k ≤ c.args.n - 2) count c.if-parts-at.true in
    leads-give c.args.self.now c.args.node p h seen (operand p.inner p.viewed p.frame c.args.n (parts_at p)) c.new.result []
    (operand-by p.inner p.viewed p.frame c.args.n (parts_at p) None (slice_get_past (parts_at p) (c.args.n - 2) past)) c.new.ensures

pub whole-requires : goal.whole-requires
whole-requires c =
    let m = some_part (node_with (current c.args.self.now) c.args.node) c.requires.there in
    let count : c.parts.result ≡ length (further_parts m.0.content) = count-is c.tree.result.now (current c.args.self.now) c.args.node c.parts.result m.0 c.tree.ensures c.parts.ensures m.1 in
    let within : c.args.n - 2 < length (further_parts m.0.content) = subst (λ k. c.args.n - 2 < k) count c.if-parts-at.false in
    let q = some_within (further_parts m.0.content) (c.args.n - 2) within in
    some_of (part_with (current c.args.self.now) c.args.node (c.args.n - 2)) q.0 (part-of (current c.args.self.now) c.args.node (c.args.n - 2) m.0 m.1 ∙ q.1)

pub returns : goal.returns
returns c =
    λ seen p h.
    let count : c.parts.result ≡ length (parts_at p) = count-here c.args.self.now c.args.node p h c.tree.result.now c.parts.result c.tree.ensures c.parts.ensures in
    let within : c.args.n - 2 < length (parts_at p) = subst (λ k. c.args.n - 2 < k) count c.if-parts-at.false in
    let q = some_within (parts_at p) (c.args.n - 2) within in
    let step = then_trimmed p.inner p.viewed p.frame in
    let before = c.new-before.result in
    leads-in seen p (operand p.inner p.viewed p.frame c.args.n (parts_at p)) (whole_part p.inner p.viewed p.frame q.0 >>= (λ out. step (before ++ out))) c.args.self.now c.whole.result c.args.self.now
    (operand-by p.inner p.viewed p.frame c.args.n (parts_at p) (Some q.0) q.1
    ∙ bind-same (whole_part p.inner p.viewed p.frame q.0) step (λ out. step (before ++ out)) (λ out. ap (λ (b : Output). step (b ++ out)) (sym c.new-before.ensures)))
    (c.whole.ensures seen p q.0 step h q.1 (λ out. refl))
