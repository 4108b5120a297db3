use Rattle.std.proofs.Common.{arith}
use Rattle.wk_tree.proofs.MatchingLemmas.{raised-read}
use Rattle.wk_tree.proofs.matching.raise.Goals as goal

pub returns-then-count-gt0 : goal.returns-then-count-gt0
returns-then-count-gt0 c = raised-read c.args.height c.args.openers.now.items c.index_mut-opener.result.now c.len-count.result c.max-opener.result (omega (arith, c.args.openers.now.ok)) (omega arith) c.index_mut-opener.ensures.value c.max-opener.ensures
