use Rattle.std.proofs.Common.{◌∙◌}
use Rattle.wk_core.proofs.LoadFacts.{migrated-fits, migrated-told, newest-told}
use Rattle.wk_core.proofs.load.migrate.Goals as goal

pub apply-requires : goal.apply-requires
apply-requires g c = migrated-fits c.args.tables.now.tables c.requires.good (g.K.Keeper.told c.args.keeper.now) c.in_ok-change.change c.requires.told c.in_ok-change.ensures

pub returns-then-version-eq1-clause-told : goal.returns-then-version-eq1-clause-told
returns-then-version-eq1-clause-told g c =
    migrated-told c.args.tables.now.tables c.requires.good (g.K.Keeper.told c.args.keeper.now) c.apply.result (g.K.Keeper.told c.apply.new.self) c.in_ok-change.change c.requires.told c.in_ok-change.ensures
    c.apply.ensures.tells c.apply.ensures.made

pub returns-clause-told : goal.returns-clause-told
returns-clause-told g c =
    newest-told c.args.tables.now.tables c.requires.good (g.K.Keeper.told c.args.keeper.now) (λ one. c.if-version-eq1.false (c.version.ensures ∙ one)) c.requires.told
