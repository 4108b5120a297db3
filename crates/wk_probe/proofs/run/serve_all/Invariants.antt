use Rattle.wk_lines.specs.Reading.{lines_left}
use Rattle.wk_probe.proofs.run.serve_all.Given as goal

abbrev pub decreases-lines : goal.decreases-lines
decreases-lines g l = lines_left l.reader
