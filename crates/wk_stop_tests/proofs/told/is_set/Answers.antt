use Rattle.wk_stop_tests.proofs.Fits.{version_fits}
use Rattle.wk_stop_tests.proofs.told.is_set.Goals as goal

pub apply-requires : goal.apply-requires
apply-requires g c = version_fits (g.K.Keeper.told c.args.keeper.now) c.args.change.now c.requires
