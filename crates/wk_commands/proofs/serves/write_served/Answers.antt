use Rattle.std.proofs.Common.{subst}
use Rattle.wk_commands.specs.Served.{WritesLine}
use Rattle.wk_commands.specs.Texts.{served_line}
use Rattle.wk_commands.proofs.Served.{end-of-line}
use Rattle.wk_commands.proofs.serves.write_served.Goals as goal

pub returns-in-Ok-clause-ends : goal.returns-in-Ok-clause-ends
returns-in-Ok-clause-ends g c =
    subst (λ r. WritesLine (served_line c.args.count) r (g.O.Sink.taken c.args.output.now) (g.O.Sink.taken c.write_line.new.output)) c.in-Ok.is
    (c.write_line.ensures.line (served_line c.args.count) c.served_text.ensures)

pub returns-in-Err-clause-ends : goal.returns-in-Err-clause-ends
returns-in-Err-clause-ends g c =
    end-of-line (served_line c.args.count) (g.O.Sink.taken c.args.output.now) (g.O.Sink.taken c.write_line.new.output) c.in-Err.end
    (subst (λ r. WritesLine (served_line c.args.count) r (g.O.Sink.taken c.args.output.now) (g.O.Sink.taken c.write_line.new.output)) c.in-Err.is
    (c.write_line.ensures.line (served_line c.args.count) c.served_text.ensures))
