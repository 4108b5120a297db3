use Rattle.std.proofs.Common.{◌≡◌, sym, ◌∙◌}
use Rattle.wk_tree.specs.Tokens.{is_argument}
use Rattle.wk_view_rules.specs.Expand.{argument_output, kind_output}
use Rattle.wk_expand.specs.Stack.{parts_at, text_at}
use Rattle.wk_expand.proofs.LeadLaws.{leads-in, text-here}
use Rattle.wk_expand.proofs.NodeLaws.{kind-argument, kind-is}
use Rattle.wk_expand.proofs.state.Expander.titled.Goals as goal

pub returns-then-argument-clause-leads : goal.returns-then-argument-clause-leads
returns-then-argument-clause-leads c =
    λ p h.
    let s = c.args.self.now in
    let kind : c.argument.result ≡ is_argument p.node.kind = kind-is c.tree.result.now (text_at p) c.args.node c.argument.result is_argument p.node (c.tree.ensures ∙ text-here s c.args.node p h) c.argument.ensures h.is.there in
    leads-in c.args.seen.now p (kind_output p.inner p.viewed p.frame p.node.kind c.args.name.now (parts_at p)) (argument_output p.inner p.viewed p.frame c.args.name.now (parts_at p)) s c.in_ok-argument.field-0 c.argument-then-argument.new.self
    (kind-argument p.inner p.viewed p.frame p.node.kind c.args.name.now (parts_at p) (sym kind ∙ c.if-argument.true))
    (c.in_ok-argument.ensures c.args.seen.now p h)
