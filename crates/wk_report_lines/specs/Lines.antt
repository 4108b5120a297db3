-- What a line of a report stands for.
use Rattle.wk_report_rules.specs.Reports.{Line}
use Rattle.wk_report_lines.specs.declared.line.ReportLine.{ReportLine}

abbrev pub line_of : ReportLine → Line
line_of line = record { count = line.count; titles = line.titles.items }
