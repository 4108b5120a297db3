use Rattle.wk_shared.specs.Answers.{FinishTold}
use Rattle.wk_complete_laws.specs.Complete.{IsFinishInTurn}
use Rattle.wk_complete_laws.proofs.Completing.{finish-in-turn, made-at, never-fails}
use Rattle.wk_complete_laws.proofs.turns.current_reads_are_finished_in_turn.Goals as goal

pub returns-clause-call : goal.returns-clause-call
returns-clause-call g c =
    made-at c.args.shared.now.start c.args.pass.now c.finish_job.new.pass (FinishTold c.args.ticket.ticket c.args.draft.reads c.finish_job.result.0) (IsFinishInTurn c.args.ticket.ticket c.args.draft.reads c.finish_job.result.0)
    (λ state point event told. finish-in-turn c.args.ticket.ticket c.args.draft.reads c.finish_job.result.0 c.args.shared.now.start state point event
    (λ is. never-fails c.args.shared.now.start c.requires.whole (c.finish_job.ensures.fault is)) told)
    c.finish_job.ensures.call
