use Rattle.wk_title_laws.proofs.NormalRows.{normal-rows}
use Rattle.wk_title_laws.proofs.titles_of_rows_are_normal.Goals as goal

pub returns : goal.returns
returns c = normal-rows
