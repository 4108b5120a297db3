use Rattle.wk_table_laws.proofs.RoundTrip.{jobs_of_tables-rows}
use Rattle.wk_table_laws.proofs.written_jobs_are_read_back.Goals as goal

pub returns : goal.returns
returns c = jobs_of_tables-rows
