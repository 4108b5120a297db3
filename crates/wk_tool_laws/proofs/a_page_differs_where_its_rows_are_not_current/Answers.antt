use Rattle.wk_tool_laws.proofs.Differing.{current-page, same-page}
use Rattle.wk_tool_laws.proofs.a_page_differs_where_its_rows_are_not_current.Goals as goal

pub returns-clause-only_so : goal.returns-clause-only_so
returns-clause-only_so c = current-page

pub returns-clause-current : goal.returns-clause-current
returns-clause-current c = same-page
