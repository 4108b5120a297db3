use Rattle.wk_view_laws.proofs.RowLemmas.{names_text-rows, names_both-rows}
use Rattle.wk_view_laws.proofs.rows_name_what_is_read.Goals as goal

pub returns-clause-text : goal.returns-clause-text
returns-clause-text c = names_text-rows

pub returns-clause-both : goal.returns-clause-both
returns-clause-both c = names_both-rows
