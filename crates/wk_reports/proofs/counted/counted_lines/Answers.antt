use Rattle.std.proofs.Common.{map}
use Rattle.wk_report_lines.specs.Lines.{line_of}
use Rattle.wk_reports.proofs.Found.{counted-whole}
use Rattle.wk_reports.proofs.counted.counted_lines.Goals as goal

pub returns : goal.returns
returns c =
    counted-whole c.args.counted c.args.live.now.state c.in_ok-tally.tally.entries (map line_of c.in_ok-lines.lines.items) c.requires c.in_ok-tally.ensures c.in_ok-lines.ensures
