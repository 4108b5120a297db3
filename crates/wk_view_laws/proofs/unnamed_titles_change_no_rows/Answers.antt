use Rattle.wk_view_laws.proofs.RowLemmas.{rows-unnamed_both, rows-unnamed_text}
use Rattle.wk_view_laws.proofs.unnamed_titles_change_no_rows.Goals as goal

pub returns-clause-any_change : goal.returns-clause-any_change
returns-clause-any_change c = rows-unnamed_both

pub returns-clause-other_text : goal.returns-clause-other_text
returns-clause-other_text c = rows-unnamed_text
