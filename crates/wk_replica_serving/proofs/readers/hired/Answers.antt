use Rattle.std.proofs.Common.{◌∙◌, arith}
use Rattle.wk_replica_reads.specs.Looks.{IsFree}
use Rattle.wk_replica_serving.proofs.Lists.{all-with}
use Rattle.wk_replica_serving.proofs.readers.hired.Goals as goal

pub hiring-preserved : goal.hiring-preserved
hiring-preserved c =
    let inv = c.hiring.invariant in
    let pushed = c.in_ok-push.ensures.len in
    let counted = inv.2 in
    let most = c.max-end.ensures in
    let more = c.hiring-test.true in (
      c.in_ok-hire.ensures.pass ∙ inv.0,
      all-with (λ r. IsFree c.args.shared.now r.pass) c.hiring.readers.items _ c.in_ok-hire.field-0 c.in_ok-push.ensures.items inv.1 c.in_ok-hire.ensures.free,
      omega (arith, pushed, counted),
      omega (arith, more, most),
    )
