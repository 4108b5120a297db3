use Rattle.wk_wiki_rules.specs.SaveOutcomes.{deletion}
use Rattle.wk_shared.specs.Answers.{SaveTold}
use Rattle.wk_complete_laws.specs.Complete.{IsSaveInTurn}
use Rattle.wk_complete_laws.proofs.Completing.{made-at, never-fails, save-in-turn}
use Rattle.wk_complete_laws.proofs.turns.granted_deletions_are_made_in_turn.Goals as goal

pub returns-clause-call : goal.returns-clause-call
returns-clause-call g c =
    made-at c.args.shared.now.start c.args.pass.now c.remove.new.pass (SaveTold (deletion c.args.title.now c.args.base) c.args.now c.remove.result.0) (IsSaveInTurn (deletion c.args.title.now c.args.base) c.args.now c.remove.result.0)
    (λ state point event told. save-in-turn (deletion c.args.title.now c.args.base) c.args.now c.remove.result.0 c.args.shared.now.start state point event
    (λ is. never-fails c.args.shared.now.start c.requires.whole (c.remove.ensures.fault is)) told)
    c.remove.ensures.call
