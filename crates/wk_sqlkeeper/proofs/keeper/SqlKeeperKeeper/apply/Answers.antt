use Rattle.std.proofs.Common.{ap}
use Rattle.wk_sqlkeeper.specs.declared.answers.Calls.{Calls}
use Rattle.wk_sqlkeeper.proofs.Answered.{err_through, ok_through, refused_for, statement_is_other, uncounted, value_is_other}
use Rattle.wk_sqlkeeper.proofs.keeper.SqlKeeperKeeper.apply.Goals as goal

pub returns-clause-no_fault : goal.returns-clause-no_fault
returns-clause-no_fault g c =
    let count = ap (λ (calls : Calls). calls.faults) c.permit-permit.ensures in
    uncounted (λ (calls : Calls). calls.faults) c.answered.result c.args.self.now.calls c.answered.new.self _ _ c.answered.ensures.no_fault c.answered.ensures.memory count count

pub returns-clause-kept : goal.returns-clause-kept
returns-clause-kept g c clean = ok_through _ c.make_change-answer.result c.answered.result c.answered.ensures.given (c.make_change-answer.ensures.made clean)

pub returns-clause-undone : goal.returns-clause-undone
returns-clause-undone g c clean is_open = err_through _ c.make_change-answer.result c.answered.result c.answered.ensures.only (c.make_change-answer.ensures.refused clean is_open)

pub returns-clause-out_of_order : goal.returns-clause-out_of_order
returns-clause-out_of_order g c falls =
    let refused = c.make_change-answer.ensures.out_of_order falls in
    let why = refused_for _ statement_is_other c.make_change-answer.result c.answered.result _ refused.0 (c.make_change-answer.ensures.cause falls) c.answered.ensures.because c.answered.ensures.refused (λ e. c.answered.ensures.no_memory.1 e) in
    (why.0, refused.1, why.1)

pub returns-clause-out_of_range : goal.returns-clause-out_of_range
returns-clause-out_of_range g c rises over =
    let refused = c.make_change-answer.ensures.out_of_range rises over in
    let why = refused_for _ value_is_other c.make_change-answer.result c.answered.result _ refused.0 (c.make_change-answer.ensures.range_cause rises over) c.answered.ensures.because c.answered.ensures.refused (λ e. c.answered.ensures.no_memory.1 e) in
    (why.0, refused.1, why.1)
