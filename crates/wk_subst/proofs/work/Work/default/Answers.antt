use Rattle.std.proofs.Common.{arith}
use Rattle.std.proofs.lemmas.Result.{on_ok_weaker}
use Rattle.wk_subst.specs.Work.{parsed_of}
use Rattle.wk_subst.proofs.NodeLaws.{count-is, part-there, part-within}
use Rattle.wk_subst.proofs.StepLaws.{default-gives, default-wholes}
use Rattle.wk_subst.proofs.work.Work.default.Goals as goal

pub returns-then-parts-eq0 : goal.returns-then-parts-eq0
returns-then-parts-eq0 c =
    let w = c.args.self.now in
    let count = count-is c.parts.result c.tree.result.now (parsed_of w) c.args.node c.tree.ensures c.requires.node c.parts.ensures in
    on_ok_weaker c.give_source.result (λ is.
    default-gives w c.args.node c.requires.sound c.requires.node c.give_source.new.self (omega (arith, count, c.if-parts-eq0.true)) is) c.give_source.ensures

pub whole-requires-clause-part : goal.whole-requires-clause-part
whole-requires-clause-part c =
    let w = c.args.self.now in
    part-there c.parts.result 0 c.tree.result.now (parsed_of w) c.args.node c.tree.ensures c.requires.node c.parts.ensures (omega (arith, c.if-parts-eq0.false))

pub returns : goal.returns
returns c =
    let w = c.args.self.now in
    let count = count-is c.parts.result c.tree.result.now (parsed_of w) c.args.node c.tree.ensures c.requires.node c.parts.ensures in
    let q = part-within (parsed_of w) c.args.node 0 c.requires.node (omega (arith, count, c.if-parts-eq0.false)) in
    on_ok_weaker c.whole.result (λ h. default-wholes w c.args.node c.requires.sound c.requires.node c.whole.new.self q.0 q.1 (h q.0 q.1)) c.whole.ensures
