use Rattle.std.proofs.Common.{arith}
use Rattle.wk_sqlmemory.proofs.EditRanges.{none_in_range, more_in_range, all_in_range}
use Rattle.wk_sqlmemory.proofs.ranges.edits_are_in_range.Goals as goal

pub edits-init : goal.edits-init
edits-init c = none_in_range c.args.edits.now

pub edits-preserved : goal.edits-preserved
edits-preserved c = more_in_range c.args.edits.now c.edits.edit-index c.edit-item.result c.edits-test.true c.edit-item.is c.edits.invariant c.edit_is_in_range.ensures

pub returns : goal.returns
returns c = all_in_range c.args.edits.now c.edits.edit-index (omega (arith, c.edits-test.false)) c.edits.invariant
