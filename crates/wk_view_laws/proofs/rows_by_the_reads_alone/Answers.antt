use Rattle.wk_view_laws.proofs.ViewLemmas.{view-elsewhere, rows-elsewhere}
use Rattle.wk_view_laws.proofs.rows_by_the_reads_alone.Goals as goal

pub returns-clause-same : goal.returns-clause-same
returns-clause-same c = rows-elsewhere

pub returns-clause-view : goal.returns-clause-view
returns-clause-view c = view-elsewhere
