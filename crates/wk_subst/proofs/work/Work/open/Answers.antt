use Rattle.std.proofs.Common.{arith, sym, ◌∙◌}
use Rattle.std.proofs.lemmas.Result.{IfOk-weaker}
use Rattle.wk_tree.specs.Tokens.{is_argument}
use Rattle.wk_subst.specs.Work.{node_in, parsed_of}
use Rattle.wk_subst.specs.declared.work.Work.{Work}
use Rattle.wk_subst.proofs.NodeLaws.{argument-kind, kind-is, template-kind}
use Rattle.wk_subst.proofs.StepLaws.{template-leads}
use Rattle.wk_subst.proofs.work.Work.open.Goals as goal

pub argument-requires-then-argument-clause-kind : goal.argument-requires-then-argument-clause-kind
argument-requires-then-argument-clause-kind c =
    let w : Work = c.args.self.now in
    let is = kind-is is_argument c.argument.result c.tree.result.now (parsed_of w) c.args.node c.tree.ensures c.requires.node c.argument.ensures in
    argument-kind (node_in w c.args.node).kind (sym is ∙ c.if-argument.true)

pub template-requires-clause-kind : goal.template-requires-clause-kind
template-requires-clause-kind c =
    let w : Work = c.args.self.now in
    let is = kind-is is_argument c.argument.result c.tree.result.now (parsed_of w) c.args.node c.tree.ensures c.requires.node c.argument.ensures in
    template-kind (node_in w c.args.node).kind (sym is ∙ c.if-argument.false)

pub returns : goal.returns
returns c =
    let w : Work = c.args.self.now in
    let is = kind-is is_argument c.argument.result c.tree.result.now (parsed_of w) c.args.node c.tree.ensures c.requires.node c.argument.ensures in
    let kind = template-kind (node_in w c.args.node).kind (sym is ∙ c.if-argument.false) in
    IfOk-weaker c.template.result _ _ (λ now h.
    template-leads w c.args.node c.requires.sound c.requires.node c.charge.new.self c.template.new.self now c.if-not-charge.ensures.within (omega (arith, c.if-len-ge-MOST_OPEN.false, c.len.ensures)) kind h) c.template.ensures
