use Rattle.wk_view_laws.proofs.ViewLemmas.{rows-missing}
use Rattle.wk_view_laws.proofs.missing_pages_have_no_rows.Goals as goal

pub returns : goal.returns
returns c = rows-missing
