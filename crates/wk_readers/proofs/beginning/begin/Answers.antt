use Rattle.wk_readers.proofs.MadeLaws.{has-begun}
use Rattle.wk_readers.proofs.beginning.begin.Goals as goal

pub returns : goal.returns
returns g c =
    has-begun g.K.Keeper.told g.K.Keeper.is_whole g.K.Keeper.faults c.args.shared.now c.args.pass.now c.take-held.new.pass c.take-held.result.value c.begin_on-beginning.new.wiki c.take-held.ensures.taken c.take-held.ensures.keeper
    c.begin_on-beginning.result c.begin_on-beginning.ensures c.give-point.new.pass c.take-held.result.before.value c.give-point.result c.requires.turn c.take-held.ensures.before c.give-point.ensures
