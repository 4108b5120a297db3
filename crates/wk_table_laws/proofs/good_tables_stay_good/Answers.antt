use Rattle.wk_table_laws.proofs.GoodChanges.{IsGood-new, fits-good, IsGood-applied}
use Rattle.wk_table_laws.proofs.good_tables_stay_good.Goals as goal

pub returns-clause-new : goal.returns-clause-new
returns-clause-new c = IsGood-new

pub returns-clause-fit : goal.returns-clause-fit
returns-clause-fit c = fits-good

pub returns-clause-good : goal.returns-clause-good
returns-clause-good c = IsGood-applied
