use Rattle.wk_read_laws.proofs.PageLaws.{read-now}
use Rattle.wk_read_laws.proofs.pages.a_read_is_right_where_each_answer_is_current.Goals as goal

pub returns : goal.returns
returns c = read-now
