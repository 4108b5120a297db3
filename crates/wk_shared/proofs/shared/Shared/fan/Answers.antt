use Rattle.wk_shared.proofs.Outcomes.{fan-made, may-fail}
use Rattle.wk_shared.proofs.Made.{has-seen, is-made, makes}
use Rattle.wk_shared.proofs.shared.Shared.fan.Goals as goal

pub give_wiki-point-requires-clause-made : goal.give_wiki-point-requires-clause-made
give_wiki-point-requires-clause-made g c = makes g.K.Keeper.told c.args.self.now c.args.pass.now c.take_wiki-held.new.pass c.take_wiki-held.result.value c.fan-answer.new.self c.take_wiki-held.ensures.taken _ _ c.take_wiki-held.ensures.before (fan-made g.K.Keeper.told _ _ _ c.fan-answer.result c.fan-answer.ensures.fanned c.fan-answer.ensures.event c.fan-answer.ensures.none c.fan-answer.ensures.room c.fan-answer.ensures.full c.fan-answer.ensures.refused)

pub returns-clause-pass : goal.returns-clause-pass
returns-clause-pass g c = has-seen g.K.Keeper.told c.args.self.now c.args.pass.now c.take_wiki-held.new.pass c.take_wiki-held.result.value c.fan-answer.new.self c.take_wiki-held.ensures.taken _ _ _ c.requires.turn c.take_wiki-held.ensures.before c.give_wiki-point.ensures _ (fan-made g.K.Keeper.told _ _ _ c.fan-answer.result c.fan-answer.ensures.fanned c.fan-answer.ensures.event c.fan-answer.ensures.none c.fan-answer.ensures.room c.fan-answer.ensures.full c.fan-answer.ensures.refused)

pub returns-clause-call : goal.returns-clause-call
returns-clause-call g c = is-made g.K.Keeper.told c.args.self.now c.args.pass.now c.take_wiki-held.new.pass c.take_wiki-held.result.value c.fan-answer.new.self c.take_wiki-held.ensures.taken _ _ _ c.requires.turn c.take_wiki-held.ensures.before c.give_wiki-point.ensures _ (fan-made g.K.Keeper.told _ _ _ c.fan-answer.result c.fan-answer.ensures.fanned c.fan-answer.ensures.event c.fan-answer.ensures.none c.fan-answer.ensures.room c.fan-answer.ensures.full c.fan-answer.ensures.refused)

pub returns-clause-fault : goal.returns-clause-fault
returns-clause-fault g c = λ e.
    may-fail g.K.Keeper.is_whole g.K.Keeper.faults c.args.self.now.start c.take_wiki-held.result.value c.fan-answer.new.self c.take_wiki-held.ensures.taken.start c.take_wiki-held.ensures.keeper
    c.fan-answer.ensures.keeper.whole (c.fan-answer.ensures.fault e)
