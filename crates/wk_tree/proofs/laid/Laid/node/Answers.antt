use Rattle.std.proofs.Common.{arith}
use Rattle.wk_tree.specs.Laid.{all_of}
use Rattle.wk_tree.proofs.ViewLemmas.{node-none, node-shown}
use Rattle.wk_tree.proofs.laid.Laid.node.Goals as goal

pub returns-then-at-len : goal.returns-then-at-len
returns-then-at-len c = λ ns rest shows.
    node-shown (all_of c.args.self.now) ns rest c.args.self.now.nodes.items c.args.node.0 shows c.index.result.now c.index.ensures

pub returns-else-at-len : goal.returns-else-at-len
returns-else-at-len c = λ ns rest shows.
    node-none (all_of c.args.self.now) ns rest c.args.self.now.nodes.items c.args.node.0 shows (omega (arith, c.if-at-len.false, c.len.ensures, c.args.self.now.nodes.ok.0))
