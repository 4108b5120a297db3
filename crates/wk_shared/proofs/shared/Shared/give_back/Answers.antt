use Rattle.wk_shared.proofs.Outcomes.{back-made}
use Rattle.wk_shared.proofs.Made.{has-seen, is-made, makes, out-taken}
use Rattle.wk_shared.proofs.shared.Shared.give_back.Goals as goal

pub give_wiki-requires-clause-made : goal.give_wiki-requires-clause-made
give_wiki-requires-clause-made g c = makes g.K.Keeper.told c.args.self.now c.args.pass.now c.take_wiki-held.new.pass c.take_wiki-held.result.value c.give_back.new.self c.take_wiki-held.ensures.taken _ _ c.take_wiki-held.ensures.before (back-made g.K.Keeper.told _ _ _ _ c.give_back.ensures.event (c.take_wiki-held.ensures.taken.still_open _ c.requires.ticket.claim))

pub returns-clause-pass : goal.returns-clause-pass
returns-clause-pass g c = has-seen g.K.Keeper.told c.args.self.now c.args.pass.now c.take_wiki-held.new.pass c.take_wiki-held.result.value c.give_back.new.self c.take_wiki-held.ensures.taken _ _ _ c.requires.free.turn c.take_wiki-held.ensures.before c.give_wiki.ensures _ (back-made g.K.Keeper.told _ _ _ _ c.give_back.ensures.event (c.take_wiki-held.ensures.taken.still_open _ c.requires.ticket.claim))

pub returns-clause-call : goal.returns-clause-call
returns-clause-call g c = is-made g.K.Keeper.told c.args.self.now c.args.pass.now c.take_wiki-held.new.pass c.take_wiki-held.result.value c.give_back.new.self c.take_wiki-held.ensures.taken _ _ _ c.requires.free.turn c.take_wiki-held.ensures.before c.give_wiki.ensures _ (back-made g.K.Keeper.told _ _ _ _ c.give_back.ensures.event (c.take_wiki-held.ensures.taken.still_open _ c.requires.ticket.claim))

pub give_back-requires : goal.give_back-requires
give_back-requires g c = record { out = out-taken c.args.self.now c.args.pass.now c.take_wiki-held.new.pass c.take_wiki-held.result.value c.take_wiki-held.ensures.taken c.args.ticket c.requires.ticket }
