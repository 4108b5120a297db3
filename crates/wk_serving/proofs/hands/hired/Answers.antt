use Rattle.std.proofs.Common.{◌∙◌, arith}
use Rattle.wk_refresh.specs.Drained.{IsFree}
use Rattle.wk_serving.proofs.Hired.{all-with}
use Rattle.wk_serving.proofs.hands.hired.Goals as goal

pub hiring-preserved : goal.hiring-preserved
hiring-preserved g c =
    let inv = c.hiring.invariant in
    let pushed = c.in_ok-push.ensures.len in
    let counted = inv.2 in
    let most = c.max-end.ensures in
    let more = c.hiring-test.true in (
      c.in_ok-worker.ensures.pass ∙ inv.0,
      all-with (λ w. IsFree c.args.shared.now w.reader.pass) c.hiring.workers.items _ c.in_ok-worker.field-0 c.in_ok-push.ensures.items inv.1 c.in_ok-worker.ensures.free,
      omega (arith, pushed, counted),
      omega (arith, more, most),
    )
