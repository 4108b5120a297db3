use Rattle.wk_shared.proofs.Outcomes.{finish-made, may-fail}
use Rattle.wk_shared.proofs.Made.{fit-taken, has-seen, is-made, makes, out-taken}
use Rattle.wk_shared.proofs.shared.Shared.finish_job.Goals as goal

pub give_wiki-point-requires-clause-made : goal.give_wiki-point-requires-clause-made
give_wiki-point-requires-clause-made g c = makes g.K.Keeper.told c.args.self.now c.args.pass.now c.take_wiki-held.new.pass c.take_wiki-held.result.value c.finish-answer.new.self c.take_wiki-held.ensures.taken _ _ c.take_wiki-held.ensures.before (finish-made g.K.Keeper.told _ _ _ c.args.ticket.ticket c.args.draft.reads c.finish-answer.result c.finish-answer.ensures.event c.finish-answer.ensures.stale (c.take_wiki-held.ensures.taken.still_open _ c.requires.ticket.claim))

pub returns-clause-pass : goal.returns-clause-pass
returns-clause-pass g c = has-seen g.K.Keeper.told c.args.self.now c.args.pass.now c.take_wiki-held.new.pass c.take_wiki-held.result.value c.finish-answer.new.self c.take_wiki-held.ensures.taken _ _ _ c.requires.free.turn c.take_wiki-held.ensures.before c.give_wiki-point.ensures _ (finish-made g.K.Keeper.told _ _ _ c.args.ticket.ticket c.args.draft.reads c.finish-answer.result c.finish-answer.ensures.event c.finish-answer.ensures.stale (c.take_wiki-held.ensures.taken.still_open _ c.requires.ticket.claim))

pub returns-clause-call : goal.returns-clause-call
returns-clause-call g c = is-made g.K.Keeper.told c.args.self.now c.args.pass.now c.take_wiki-held.new.pass c.take_wiki-held.result.value c.finish-answer.new.self c.take_wiki-held.ensures.taken _ _ _ c.requires.free.turn c.take_wiki-held.ensures.before c.give_wiki-point.ensures _ (finish-made g.K.Keeper.told _ _ _ c.args.ticket.ticket c.args.draft.reads c.finish-answer.result c.finish-answer.ensures.event c.finish-answer.ensures.stale (c.take_wiki-held.ensures.taken.still_open _ c.requires.ticket.claim))

pub finish-answer-requires-clause-out : goal.finish-answer-requires-clause-out
finish-answer-requires-clause-out g c = out-taken c.args.self.now c.args.pass.now c.take_wiki-held.new.pass c.take_wiki-held.result.value c.take_wiki-held.ensures.taken c.args.ticket c.requires.ticket

pub finish-answer-requires-clause-draft : goal.finish-answer-requires-clause-draft
finish-answer-requires-clause-draft g c = fit-taken c.args.self.now c.args.pass.now c.take_wiki-held.new.pass c.take_wiki-held.result.value c.take_wiki-held.ensures.taken c.args.ticket c.args.draft c.requires.draft

pub returns-clause-fault : goal.returns-clause-fault
returns-clause-fault g c = λ e.
    may-fail g.K.Keeper.is_whole g.K.Keeper.faults c.args.self.now.start c.take_wiki-held.result.value c.finish-answer.new.self c.take_wiki-held.ensures.taken.start c.take_wiki-held.ensures.keeper
    c.finish-answer.ensures.keeper.whole (c.finish-answer.ensures.fault e)
