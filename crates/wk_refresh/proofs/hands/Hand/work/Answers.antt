use Rattle.wk_refresh.proofs.DrainLaws.{steps-end, steps-next}
use Rattle.wk_refresh.proofs.hands.Hand.work.Goals as goal

pub returns-in-Some-end_of : goal.returns-in-Some-end_of
returns-in-Some-end_of g c =
    steps-end c.args.shared.now c.args.self.now.worker.reader.pass c.steps.self.worker.reader.pass c.refresh_one-answer.new.reader.pass c.refresh_one-answer.result
    c.in-Some-end_of.end c.steps.invariant c.refresh_one-answer.ensures.refreshed c.in-Some-end_of.ensures.end

pub steps-preserved-after-is_idle : goal.steps-preserved-after-is_idle
steps-preserved-after-is_idle g c =
    steps-next c.args.shared.now c.args.self.now.worker.reader.pass c.steps.self.worker.reader.pass c.refresh_one-answer.new.reader.pass c.steps.invariant c.refresh_one-answer.ensures.refreshed.pass

pub steps-preserved-after-is_idle-2 : goal.steps-preserved-after-is_idle-2
steps-preserved-after-is_idle-2 g c =
    steps-next c.args.shared.now c.args.self.now.worker.reader.pass c.steps.self.worker.reader.pass c.refresh_one-answer.new.reader.pass c.steps.invariant c.refresh_one-answer.ensures.refreshed.pass

pub steps-preserved-after-is_idle-3 : goal.steps-preserved-after-is_idle-3
steps-preserved-after-is_idle-3 g c =
    steps-next c.args.shared.now c.args.self.now.worker.reader.pass c.steps.self.worker.reader.pass c.refresh_one-answer.new.reader.pass c.steps.invariant c.refresh_one-answer.ensures.refreshed.pass

pub steps-preserved : goal.steps-preserved
steps-preserved g c =
    steps-next c.args.shared.now c.args.self.now.worker.reader.pass c.steps.self.worker.reader.pass c.refresh_one-answer.new.reader.pass c.steps.invariant c.refresh_one-answer.ensures.refreshed.pass
