use Rattle.std.proofs.Common.{sym, subst}
use Rattle.wk_index.specs.Loadable.{AreLoadable}
use Rattle.wk_index.proofs.LoadLaws.{AreLoadable-from_good}
use Rattle.wk_index.proofs.index.Index.load.Goals as goal

pub load_rows-requires : goal.load_rows-requires
load_rows-requires c = subst AreLoadable (sym c.in_ok-rows.ensures) (AreLoadable-from_good c.args.tables.now.tables c.requires)
