use Rattle.std.proofs.Common.{refl}
use Rattle.wk_shared.specs.Calls.{MayFail}
use Rattle.wk_session.proofs.Acting.{declined-now}
use Rattle.wk_session.proofs.acts.decline.Goals as goal

pub returns : goal.returns
returns g c = λ parsed refuses.
    declined-now c.args.shared.now (MayFail c.args.shared.now.start) c.args.reader.now.pass c.look-point.new.reader.pass _ parsed c.args.refusal.now _
    c.look-point.ensures.pass c.look-point.ensures.own refl refuses c.declined-value.ensures
