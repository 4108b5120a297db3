use Rattle.wk_report_laws.proofs.Expanded.{lines-at_rest}
use Rattle.wk_report_laws.proofs.reports_are_those_of_new_expansions.Goals as goal

pub returns : goal.returns
returns c = lines-at_rest
