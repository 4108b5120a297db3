use Rattle.std.proofs.Common.{inr}
use Rattle.wk_stop_tests.proofs.told.older_store.Goals as goal

pub adopt-requires : goal.adopt-requires
adopt-requires c = inr (inr (c.in_ok-make_older.ensures c.release-connection.ensures.keeps))
