use Rattle.wk_lines.specs.Reading.{lines_left}
use Rattle.wk_script_runs.proofs.Reading.{HasRead}
use Rattle.wk_script.proofs.script.serve_all.Given as goal

abbrev pub invariant-lines : goal.invariant-lines
invariant-lines g l = HasRead g.K.Keeper.told g.K.Keeper.faults l.fn.run.wiki l.run.wiki l.run.tickets.items
    (record { rest = g.I.Source.rest l.fn.input; moments = g.C.Clock.left l.fn.clock; taken = g.O.Sink.taken l.fn.output })
    (record { rest = g.I.Source.rest l.input; moments = g.C.Clock.left l.clock; taken = g.O.Sink.taken l.output })
    l.run.points.items l.reader
    (g.I.Source.faults l.fn.input) (g.I.Source.faults l.input) (g.O.Sink.faults l.fn.output) (g.O.Sink.faults l.output)

abbrev pub decreases-lines : goal.decreases-lines
decreases-lines g l = lines_left l.reader
