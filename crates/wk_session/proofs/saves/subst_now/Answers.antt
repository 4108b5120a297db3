use Rattle.std.proofs.Common.{[], ◌∷◌}
use Rattle.wk_request.specs.Asked.{request_asked}
use Rattle.wk_request_rules.specs.Requests.{valid}
use Rattle.wk_shared.specs.Calls.{MayFail}
use Rattle.wk_session.proofs.Passing.{on-since, read-both, reads-none}
use Rattle.wk_session.proofs.saves.subst_now.Goals as goal

pub tries-init : goal.tries-init
tries-init g c = reads-none c.args.shared.now c.args.worker.now.reader.pass c.requires.free

pub returns-in-Some : goal.returns-in-Some
returns-in-Some g c =
    on-since c.args.shared.now (MayFail c.args.shared.now.start) c.args.worker.now.reader.pass c.tries.worker.reader.pass c.try_save.new.worker.reader.pass
    (valid (request_asked c.args.request.now)) (c.args.moment ∷ []) c.in-Some.told c.tries.invariant c.in-Some.ensures

pub tries-preserved : goal.tries-preserved
tries-preserved g c =
    read-both c.args.shared.now c.args.worker.now.reader.pass c.tries.worker.reader.pass c.try_save.new.worker.reader.pass c.tries.invariant c.in_default.ensures

pub returns : goal.returns
returns g c =
    on-since c.args.shared.now (MayFail c.args.shared.now.start) c.args.worker.now.reader.pass c.tries.worker.reader.pass c.act_now.new.reader.pass
    (valid (request_asked c.args.request.now)) (c.args.moment ∷ []) c.act_now.result c.tries.invariant c.act_now.ensures
