use Rattle.wk_revs.specs.Edit.{edit_asked}
use Rattle.wk_shared.specs.Answers.{SaveTold}
use Rattle.wk_complete_laws.specs.Complete.{IsSaveInTurn}
use Rattle.wk_complete_laws.proofs.Completing.{made-at, never-fails, save-in-turn}
use Rattle.wk_complete_laws.proofs.turns.granted_edits_are_saved_in_turn.Goals as goal

pub returns-clause-call : goal.returns-clause-call
returns-clause-call g c =
    made-at c.args.shared.now.start c.args.pass.now c.save.new.pass (SaveTold (edit_asked c.args.edit.now) c.args.now c.save.result.0) (IsSaveInTurn (edit_asked c.args.edit.now) c.args.now c.save.result.0)
    (λ state point event told. save-in-turn (edit_asked c.args.edit.now) c.args.now c.save.result.0 c.args.shared.now.start state point event
    (λ is. never-fails c.args.shared.now.start c.requires.whole (c.save.ensures.fault is)) told)
    c.save.ensures.call
