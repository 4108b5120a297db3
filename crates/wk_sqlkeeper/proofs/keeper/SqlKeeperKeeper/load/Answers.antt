use Rattle.std.proofs.Common.{ap}
use Rattle.wk_sqlkeeper.specs.declared.answers.Calls.{Calls}
use Rattle.wk_sqlkeeper.proofs.Answered.{err_through, given_through, ok_through, uncounted}
use Rattle.wk_sqlkeeper.proofs.keeper.SqlKeeperKeeper.load.Goals as goal

pub returns-clause-read : goal.returns-clause-read
returns-clause-read g c clean = given_through _ c.load_tables-answer.result c.answered.result c.answered.ensures.given (c.load_tables-answer.ensures.read clean)

pub returns-clause-kept : goal.returns-clause-kept
returns-clause-kept g c clean = ok_through _ c.load_tables-answer.result c.answered.result c.answered.ensures.given (c.load_tables-answer.ensures.kept clean)

pub returns-clause-stays : goal.returns-clause-stays
returns-clause-stays g c clean is_open = err_through _ c.load_tables-answer.result c.answered.result c.answered.ensures.only (c.load_tables-answer.ensures.stays clean is_open)

pub returns-clause-no_fault : goal.returns-clause-no_fault
returns-clause-no_fault g c =
    let count = ap (λ (calls : Calls). calls.faults) c.permit-permit.ensures in
    uncounted (λ (calls : Calls). calls.faults) c.answered.result c.args.self.now.calls c.answered.new.self _ _ c.answered.ensures.no_fault c.answered.ensures.memory count count
