use Rattle.wk_shared.proofs.Made.{has-seen, is-made, makes}
use Rattle.wk_session.proofs.Acting.{NothingTold, looked, own-kept}
use Rattle.wk_session.proofs.desk.look.Goals as goal

pub give-point-requires-clause-made : goal.give-point-requires-clause-made
give-point-requires-clause-made g c =
    makes g.K.Keeper.told c.args.shared.now c.args.reader.now.pass c.take-held.new.reader.pass c.take-held.result.value c.take-held.result.value c.take-held.ensures.taken
    NothingTold _ c.take-held.ensures.before (looked g.K.Keeper.told c.args.reader.now.pass.own c.take-held.result.value)

pub returns-clause-pass : goal.returns-clause-pass
returns-clause-pass g c =
    has-seen g.K.Keeper.told c.args.shared.now c.args.reader.now.pass c.take-held.new.reader.pass c.take-held.result.value c.take-held.result.value c.take-held.ensures.taken
    _ _ _ c.requires.turn c.take-held.ensures.before c.give-point.ensures NothingTold (looked g.K.Keeper.told c.args.reader.now.pass.own c.take-held.result.value)

pub returns-clause-own : goal.returns-clause-own
returns-clause-own g c =
    own-kept c.args.shared.now c.args.reader.now.pass c.give-point.new.reader.pass NothingTold
    (is-made g.K.Keeper.told c.args.shared.now c.args.reader.now.pass c.take-held.new.reader.pass c.take-held.result.value c.take-held.result.value c.take-held.ensures.taken
    _ _ _ c.requires.turn c.take-held.ensures.before c.give-point.ensures NothingTold (looked g.K.Keeper.told c.args.reader.now.pass.own c.take-held.result.value))
    (λ start state point event told. told)
