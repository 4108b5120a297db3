use Rattle.std.proofs.Common.{◌≡◌, sym, ap, subst, ◌∙◌}
use Rattle.std.specs.Prelude.{Err}
use Rattle.wk_bytes.specs.Line.{line_in}
use Rattle.wk_lines.specs.Reading.{Gives}
use Rattle.wk_replica_serving.specs.Reads.{IsUnread}
use Rattle.wk_replica_serving.specs.declared.ends.FeedEnd.TheVariants.{ReadFault}
use Rattle.wk_replica_serving.proofs.FeedLaws.{fault-of, gives-line, on-ok, unfailed-line, unread, unread-line}
use Rattle.wk_replica_serving.proofs.lines.next_line.Goals as goal

-- the reading stopped
pub returns-in-Err-clause-ended : goal.returns-in-Err-clause-ended
returns-in-Err-clause-ended g c =
    let from = g.I.Source.rest c.args.input.now in
    let later = g.I.Source.rest c.next.new.input in
    subst (IsUnread c.args.lines.now c.next.new.self from later) (sym c.end_of_reading.ensures)
    (unread c.args.lines.now c.next.new.self from later c.in-Err.stop c.in-Err.ensures.err)

pub returns-in-Err-clause-fault : goal.returns-in-Err-clause-fault
returns-in-Err-clause-fault g c = λ is.
    let same : c.end_of_reading.result ≡ ReadFault = cc in
    c.next.ensures.cause (c.in-Err.is ∙ ap Err (fault-of c.in-Err.stop (sym c.end_of_reading.ensures ∙ same)))

-- a line was read
pub returns-in-Inner-clause-given : goal.returns-in-Inner-clause-given
returns-in-Inner-clause-given g c =
    let from = g.I.Source.rest c.args.input.now in
    let later = g.I.Source.rest c.next.new.input in
    let read = subst (Gives c.args.lines.now c.next.new.self from later) c.in-Inner.is c.in-Ok.ensures.ok in
    gives-line (λ b. b.items) c.args.lines.now c.next.new.self from later (line_in c.in-Inner.line) c.some_line.result c.some_line.ensures.bytes read.0 read.1

pub returns-in-Inner-clause-ended : goal.returns-in-Inner-clause-ended
returns-in-Inner-clause-ended g c =
    unread-line c.args.lines.now c.next.new.self (g.I.Source.rest c.args.input.now) (g.I.Source.rest c.next.new.input) c.some_line.result c.some_line.ensures.err

pub returns-in-Inner-clause-no_fault : goal.returns-in-Inner-clause-no_fault
returns-in-Inner-clause-no_fault g c = on-ok c.some_line.result c.in-Ok.ensures.no_fault

pub returns-in-Inner-clause-fault : goal.returns-in-Inner-clause-fault
returns-in-Inner-clause-fault g c = λ is. absurd (unfailed-line c.some_line.result c.some_line.ensures.err is)

-- the input is at its end
pub returns-in-Last-clause-given : goal.returns-in-Last-clause-given
returns-in-Last-clause-given g c =
    let read = subst (Gives c.args.lines.now c.next.new.self (g.I.Source.rest c.args.input.now) (g.I.Source.rest c.next.new.input)) c.in-Last.is c.in-Ok.ensures.ok in
    (line_in c.in-Last._rest, read)
