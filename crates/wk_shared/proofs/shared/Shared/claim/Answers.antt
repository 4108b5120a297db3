use Rattle.wk_shared.proofs.Outcomes.{claim-made}
use Rattle.wk_shared.proofs.Made.{claimed-held, has-seen, is-made, makes}
use Rattle.wk_shared.proofs.shared.Shared.claim.Goals as goal

pub give_wiki-point-requires-clause-made : goal.give_wiki-point-requires-clause-made
give_wiki-point-requires-clause-made g c = makes g.K.Keeper.told c.args.self.now c.args.pass.now c.take_wiki-held.new.pass c.take_wiki-held.result.value c.claim-answer.new.self c.take_wiki-held.ensures.taken _ _ c.take_wiki-held.ensures.before (claim-made g.K.Keeper.told _ _ _ c.claim-answer.result c.claim-answer.ensures.claimed c.claim-answer.ensures.event c.claim-answer.ensures.none c.claim-answer.ensures.room c.claim-answer.ensures.full c.claim-answer.ensures.refused)

pub returns-clause-pass : goal.returns-clause-pass
returns-clause-pass g c = has-seen g.K.Keeper.told c.args.self.now c.args.pass.now c.take_wiki-held.new.pass c.take_wiki-held.result.value c.claim-answer.new.self c.take_wiki-held.ensures.taken _ _ _ c.requires.turn c.take_wiki-held.ensures.before c.give_wiki-point.ensures _ (claim-made g.K.Keeper.told _ _ _ c.claim-answer.result c.claim-answer.ensures.claimed c.claim-answer.ensures.event c.claim-answer.ensures.none c.claim-answer.ensures.room c.claim-answer.ensures.full c.claim-answer.ensures.refused)

pub returns-clause-call : goal.returns-clause-call
returns-clause-call g c = is-made g.K.Keeper.told c.args.self.now c.args.pass.now c.take_wiki-held.new.pass c.take_wiki-held.result.value c.claim-answer.new.self c.take_wiki-held.ensures.taken _ _ _ c.requires.turn c.take_wiki-held.ensures.before c.give_wiki-point.ensures _ (claim-made g.K.Keeper.told _ _ _ c.claim-answer.result c.claim-answer.ensures.claimed c.claim-answer.ensures.event c.claim-answer.ensures.none c.claim-answer.ensures.room c.claim-answer.ensures.full c.claim-answer.ensures.refused)

pub returns-clause-ticket : goal.returns-clause-ticket
returns-clause-ticket g c = claimed-held g.K.Keeper.told c.args.self.now c.args.pass.now c.take_wiki-held.new.pass c.take_wiki-held.result.value c.claim-answer.new.self c.take_wiki-held.ensures.taken _ _ _ c.requires.turn c.take_wiki-held.ensures.before c.give_wiki-point.ensures _ (claim-made g.K.Keeper.told _ _ _ c.claim-answer.result c.claim-answer.ensures.claimed c.claim-answer.ensures.event c.claim-answer.ensures.none c.claim-answer.ensures.room c.claim-answer.ensures.full c.claim-answer.ensures.refused) c.claim-answer.result c.claim-answer.ensures.claimed c.claim-answer.ensures.event c.claim-answer.ensures.out
