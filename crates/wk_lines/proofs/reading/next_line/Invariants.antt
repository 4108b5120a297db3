use Rattle.std.proofs.Common.{◌≡◌, ◌+◌, ◌-◌, ◌^◌, ◌<◌, ◌≤◌, []}
use Rattle.wk_bytes.specs.LineCutter.{HasNoNewline}
use Rattle.wk_lines.specs.Reading.{Reads, lines_left}
use Rattle.wk_lines.proofs.reading.next_line.Given as goal

-- bytes were read, and no line was given
abbrev pub invariant-reads : goal.invariant-reads
invariant-reads g l =
    Reads (record { cutter = l.fn.cutter; total = l.fn.total }) (record { cutter = l.cutter; total = l.total })
    (g.I.Source.rest l.fn.input) (g.I.Source.rest l.input) []
    × (l.total < 2 ^ 40 + 2 ^ 13)
    × (lines_left (record { cutter = l.cutter; total = l.total }) ≤ lines_left (record { cutter = l.fn.cutter; total = l.fn.total }))
    × (g.I.Source.faults l.input ≡ g.I.Source.faults l.fn.input)
    × HasNoNewline l.cutter.rest

abbrev pub decreases-reads : goal.decreases-reads
decreases-reads g l = 2 ^ 41 - l.total
