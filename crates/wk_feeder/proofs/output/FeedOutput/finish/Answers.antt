use Rattle.wk_feeder.proofs.Lists.{took-rest}
use Rattle.wk_feeder.proofs.output.FeedOutput.finish.Goals as goal

pub returns-in-None-clause-sent : goal.returns-in-None-clause-sent
returns-in-None-clause-sent g c =
    let output = c.args.self in
    took-rest c.finish-wiki.result.1 g.E.Begins.told (g.O.Sink.taken output.sink.now) (g.O.Sink.taken c.finish-wiki.new.sink) output.feeder.sent output.feeder.pass.seen c.finish-wiki.result.0.journal
    c.finish-wiki.ensures.seen c.finish-wiki.ensures.within (output.sent c.in-None.is) c.finish-wiki.ensures.sent
