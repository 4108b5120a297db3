use Rattle.wk_shared.proofs.Outcomes.{may-fail, save-outcome}
use Rattle.wk_shared.proofs.Made.{has-seen, is-made, makes}
use Rattle.wk_shared.proofs.shared.Shared.remove.Goals as goal

pub give_wiki-point-requires-clause-made : goal.give_wiki-point-requires-clause-made
give_wiki-point-requires-clause-made g c = makes g.K.Keeper.told c.args.self.now c.args.pass.now c.take_wiki-held.new.pass c.take_wiki-held.result.value c.remove-answer.new.self c.take_wiki-held.ensures.taken _ _ c.take_wiki-held.ensures.before (save-outcome g.K.Keeper.told _ _ _ _ c.args.now c.remove-answer.result c.remove-answer.ensures.saved c.remove-answer.ensures.event c.remove-answer.ensures.refusal c.remove-answer.ensures.refused)

pub returns-clause-pass : goal.returns-clause-pass
returns-clause-pass g c = has-seen g.K.Keeper.told c.args.self.now c.args.pass.now c.take_wiki-held.new.pass c.take_wiki-held.result.value c.remove-answer.new.self c.take_wiki-held.ensures.taken _ _ _ c.requires.free.turn c.take_wiki-held.ensures.before c.give_wiki-point.ensures _ (save-outcome g.K.Keeper.told _ _ _ _ c.args.now c.remove-answer.result c.remove-answer.ensures.saved c.remove-answer.ensures.event c.remove-answer.ensures.refusal c.remove-answer.ensures.refused)

pub returns-clause-call : goal.returns-clause-call
returns-clause-call g c = is-made g.K.Keeper.told c.args.self.now c.args.pass.now c.take_wiki-held.new.pass c.take_wiki-held.result.value c.remove-answer.new.self c.take_wiki-held.ensures.taken _ _ _ c.requires.free.turn c.take_wiki-held.ensures.before c.give_wiki-point.ensures _ (save-outcome g.K.Keeper.told _ _ _ _ c.args.now c.remove-answer.result c.remove-answer.ensures.saved c.remove-answer.ensures.event c.remove-answer.ensures.refusal c.remove-answer.ensures.refused)

pub returns-clause-fault : goal.returns-clause-fault
returns-clause-fault g c = λ e.
    may-fail g.K.Keeper.is_whole g.K.Keeper.faults c.args.self.now.start c.take_wiki-held.result.value c.remove-answer.new.self c.take_wiki-held.ensures.taken.start c.take_wiki-held.ensures.keeper
    c.remove-answer.ensures.keeper.whole (c.remove-answer.ensures.fault e)
