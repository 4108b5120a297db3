use Rattle.std.specs.Prelude.{vec_capacity}
use Rattle.wk_revs.specs.Edit.{most_held}
use Rattle.wk_core.proofs.LoadFacts.{loaded-begins, loaded-held}
use Rattle.wk_core.proofs.life.Life.begin.Goals as goal

pub invariant_of-result : goal.invariant_of-result
invariant_of-result c =
    loaded-held c.args.tables.now.tables (most_held c.args.limits) c.requires.good c.requires.within c.in_ok-live.live.state c.in_ok-kept.kept c.new.result.items c.in_ok-live.live.room (vec_capacity c.new.result)
    c.in_ok-live.ensures c.in_ok-kept.ensures c.new.ensures.items

pub returns-clause-begins : goal.returns-clause-begins
returns-clause-begins c =
    loaded-begins c.args.tables.now.tables (most_held c.args.limits) c.requires.good c.requires.within c.in_ok-live.live.state c.in_ok-kept.kept c.new.result.items
    c.in_ok-live.ensures c.in_ok-kept.ensures c.new.ensures.items
