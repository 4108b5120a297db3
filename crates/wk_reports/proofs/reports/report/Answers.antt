use Rattle.wk_report_lines.specs.Lines.{line_of}
use Rattle.wk_reports.proofs.Found.{report-whole}
use Rattle.wk_reports.proofs.reports.report.Goals as goal

pub returns : goal.returns
returns g c =
    report-whole line_of c.args.which c.args.wiki.now.state c.live.result.now.state c.args.most c.in_ok-lines.lines.items c.sort_lines.new.lines.items c.truncate.new.self.items
    c.truncate.ensures.items c.sort_lines.ensures c.in_ok-lines.ensures c.live.ensures
