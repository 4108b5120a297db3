use Rattle.std.proofs.Common.{arith}
use Rattle.wk_refresh.specs.Drained.{IsFree}
use Rattle.wk_refresh.proofs.DrainLaws.{all-unmapped, drained, made-for, none-before, sliced, written}
use Rattle.wk_refresh.proofs.drains.drain_by.Goals as goal

pub work_all-requires-after_bounds : goal.work_all-requires-after_bounds
work_all-requires-after_bounds g c κs within =
    all-unmapped (λ h. h.worker) (λ w. IsFree c.args.shared.now w.reader.pass) c.as_mut_slice.result.now c.args.workers.items
    (sliced _ _ _ _ c.as_mut_slice.ensures.value (made-for _ _ _ _ c.requires.no_hand c.hire.ensures)) c.requires.free

pub returns : goal.returns
returns g c =
    let long = c.work_all.auto.hands in
    let whole = c.as_mut_slice.ensures.len in
    drained c.args.shared.now (λ h. h.worker) (λ w. w.reader.pass) (λ h. h.end) c.args.workers.items c.as_mut_slice.result.now c.work_all.new.hands _ c.dismiss.new.workers.items c.dismiss.result
    (sliced _ _ _ _ c.as_mut_slice.ensures.value (made-for _ _ _ _ c.requires.no_hand c.hire.ensures)) long c.work_all.ensures (written _ _ _ (omega (arith, long, whole)))
    (none-before _ _ _ c.requires.none_back c.dismiss.ensures.workers) c.dismiss.ensures.refusal
