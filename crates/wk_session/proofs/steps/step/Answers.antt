use Rattle.std.proofs.Common.{sym, subst}
use Rattle.wk_shared.specs.Calls.{IsFree, MayFail}
use Rattle.wk_readers.specs.Readers.{ReaderSeen}
use Rattle.wk_session.specs.Serving.{IsStepTold}
use Rattle.wk_session.proofs.Stepping.{idle-step, refreshed-step}
use Rattle.wk_session.proofs.steps.step.Goals as goal

pub returns-then-told_idle : goal.returns-then-told_idle
returns-then-told_idle g c =
    idle-step c.args.shared.now c.args.worker.now.reader c.told_idle.new.self c.told_idle.ensures.same c.requires (c.told_idle.ensures.idle c.if-told_idle.true)

pub refresh_one-refreshed-requires : goal.refresh_one-refreshed-requires
refresh_one-refreshed-requires g c = subst (λ (r : ReaderSeen). IsFree c.args.shared.now r.pass) (sym c.told_idle.ensures.same) c.requires

pub returns : goal.returns
returns g c =
    let shared = c.args.shared.now in
    let new = c.refresh_one-refreshed.new.reader.pass in
    subst (λ (r : ReaderSeen). IsStepTold shared (MayFail shared.start) r.pass new c.kind_of.result) c.told_idle.ensures.same
    (subst (IsStepTold shared (MayFail shared.start) c.told_idle.new.self.pass new) (sym c.kind_of.ensures)
    (refreshed-step shared c.told_idle.new.self.pass new c.refresh_one-refreshed.result c.refresh_one-refreshed.ensures.refreshed))
