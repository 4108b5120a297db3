use Rattle.wk_view_laws.proofs.OrderLemmas.{order-rows}
use Rattle.wk_view_laws.proofs.rows_are_in_order.Goals as goal

pub returns : goal.returns
returns c = order-rows
