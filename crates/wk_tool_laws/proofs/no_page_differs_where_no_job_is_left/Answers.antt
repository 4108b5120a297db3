use Rattle.wk_tool_laws.proofs.Differing.{none-differs}
use Rattle.wk_tool_laws.proofs.no_page_differs_where_no_job_is_left.Goals as goal

pub returns : goal.returns
returns c = none-differs
