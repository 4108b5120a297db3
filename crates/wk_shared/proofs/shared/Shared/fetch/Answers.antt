use Rattle.wk_shared.proofs.Outcomes.{fetch-made}
use Rattle.wk_shared.proofs.Made.{has-seen, is-made}
use Rattle.wk_shared.proofs.shared.Shared.fetch.Goals as goal

pub returns-clause-pass : goal.returns-clause-pass
returns-clause-pass g c = has-seen g.K.Keeper.told c.args.self.now c.args.pass.now c.take_wiki-held.new.pass c.take_wiki-held.result.value c.take_wiki-held.result.value c.take_wiki-held.ensures.taken _ _ _ c.requires.turn c.take_wiki-held.ensures.before c.give_wiki-point.ensures _ (fetch-made g.K.Keeper.told _ _ _ _ c.fetch-answer.result c.fetch-answer.ensures)

pub returns-clause-call : goal.returns-clause-call
returns-clause-call g c = is-made g.K.Keeper.told c.args.self.now c.args.pass.now c.take_wiki-held.new.pass c.take_wiki-held.result.value c.take_wiki-held.result.value c.take_wiki-held.ensures.taken _ _ _ c.requires.turn c.take_wiki-held.ensures.before c.give_wiki-point.ensures _ (fetch-made g.K.Keeper.told _ _ _ _ c.fetch-answer.result c.fetch-answer.ensures)
