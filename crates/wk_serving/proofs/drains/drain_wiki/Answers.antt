use Rattle.std.proofs.Common.{sym, ◌∙◌}
use Rattle.wk_serving.proofs.DrainedBy.{drained-by-workers, drained-whole, failed-behind}
use Rattle.wk_serving.proofs.drains.drain_wiki.Goals as goal

-- memory was wanting
pub returns-in-Err-Memory : goal.returns-in-Err-Memory
returns-in-Err-Memory g c =
    drained-by-workers g.K.Keeper.faults c.args.wiki c.drain_sealed-wiki.result.wiki c.facts.ensures.run c.facts-2.ensures.run c.drain_sealed-wiki.ensures

-- one thread did what was left
pub returns-in-Ok : goal.returns-in-Ok
returns-in-Ok g c =
    drained-whole g.K.Keeper.faults c.args.wiki c.drain_sealed-wiki.result.wiki c.facts.ensures.run c.facts-2.ensures.run c.drain_sealed-wiki.ensures
    c.drain_here-end.new.wiki c.drain_here-end.ensures.lived c.drain_here-end.result c.drain_here-end.ensures.history c.drain_here-end.ensures.limits c.drain_here-end.ensures.whole
    (sym c.facts-in-Ok.ensures.tells ∙ (c.drain_here-end.ensures.keeper.tells ∙ c.facts-2.ensures.tells))
    (failed-behind g.K.Keeper.faults g.K.Keeper.is_whole c.drain_sealed-wiki.result.wiki c.drain_here-end.new.wiki c.facts-2.ensures.whole c.facts-in-Ok.ensures.whole c.facts-2.ensures.failed c.facts-in-Ok.ensures.failed
    c.drain_here-end.ensures.whole c.drain_here-end.ensures.keeper.whole)
    c.drain_here-end.ensures.done c.drain_here-end.ensures.full c.drain_here-end.ensures.fault
