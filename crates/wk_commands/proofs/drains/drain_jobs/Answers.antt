use Rattle.wk_commands.proofs.Drained.{drained-by}
use Rattle.wk_commands.proofs.drains.drain_jobs.Goals as goal

pub returns-clause-drained : goal.returns-clause-drained
returns-clause-drained g c =
    drained-by g.K.Keeper.is_whole g.K.Keeper.faults c.args.wiki c.drain_wiki-wiki.result.0 c.requires.opened c.facts.ensures.run c.facts.ensures.whole c.facts-2.ensures.whole c.facts.ensures.failed c.facts-2.ensures.failed
    (g.O.Sink.taken c.args.output.now) (g.O.Sink.taken c.end_jobs.new.output) c.end_jobs.result c.drain_wiki-wiki.result.1 c.drain_wiki-wiki.ensures c.end_jobs.ensures.ended
