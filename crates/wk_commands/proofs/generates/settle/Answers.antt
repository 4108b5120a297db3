use Rattle.wk_commands.proofs.Generated.{settled-by}
use Rattle.wk_commands.proofs.generates.settle.Goals as goal

pub returns-clause-settled : goal.returns-clause-settled
returns-clause-settled g c =
    settled-by g.K.Keeper.is_whole g.K.Keeper.faults c.args.wiki c.drain_wiki-wiki.result.0 c.facts.ensures.whole c.facts-2.ensures.whole c.facts.ensures.failed c.facts-2.ensures.failed (g.O.Sink.taken c.args.output.now) (g.O.Sink.taken c.end_drain-end.new.output) c.end_drain-end.result
    c.drain_wiki-wiki.result.1 c.drain_wiki-wiki.ensures c.end_drain-end.ensures.ended
