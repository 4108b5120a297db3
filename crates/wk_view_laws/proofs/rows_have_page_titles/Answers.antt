use Rattle.wk_view_laws.proofs.OrderLemmas.{pages-rows}
use Rattle.wk_view_laws.proofs.rows_have_page_titles.Goals as goal

pub returns : goal.returns
returns c = pages-rows
