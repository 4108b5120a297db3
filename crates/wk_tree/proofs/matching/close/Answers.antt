use Rattle.std.proofs.Common.{arith, ◌-◌}
use Rattle.wk_tree.proofs.MeetingLemmas.{closing-more}
use Rattle.wk_tree.proofs.matching.close.Goals as goal

pub loop-time-preserved : goal.loop-time-preserved
loop-time-preserved c = λ seen k long fits.
    let more = c.if-left-lt2.false in
    closing-more c.loop-time.left c.in_ok-left.left c.loop-time.matching c.meet.new.matching (c.args.run.count - c.loop-time._time) _ _ (omega arith) (omega (arith, more))
    (c.loop-time.invariant seen k long fits) (λ before kept within. c.in_ok-left.ensures before kept (omega (arith, more)) within)
