use Rattle.std.proofs.Common.{◌≡◌, ap, subst, ◌∙◌}
use Rattle.std.specs.Prelude.{Err, option_map}
use Rattle.wk_replica.specs.Replicas.{lines_taken, so_far}
use Rattle.wk_replica_serving.specs.Reads.{GivesLine, IsEarly}
use Rattle.wk_replica_serving.specs.declared.ends.FeedEnd.TheVariants.{ReadFault}
use Rattle.wk_replica_serving.proofs.FeedLaws.{ended-early, going-early, line-given, on-ok, refused-early, took-early, unfailed-early, unread-early}
use Rattle.wk_replica_serving.proofs.begins.take_next.Goals as goal

-- nothing was read
pub returns-in-Err-clause-ended : goal.returns-in-Err-clause-ended
returns-in-Err-clause-ended g c = λ rest h.
    unread-early rest (g.I.Source.rest c.args.input.now) (g.I.Source.rest c.next_line.new.input) c.args.lines.now c.next_line.new.lines (so_far c.args.replica.now) (lines_taken c.args.replica.now)
    c.in-Err.end c.in-Err.ensures.ended h

pub returns-in-Err-clause-fault : goal.returns-in-Err-clause-fault
returns-in-Err-clause-fault g c = λ is.
    let same : c.in-Err.end ≡ ReadFault = cc in
    c.next_line.ensures.fault (c.in-Err.is ∙ ap Err same)

-- a line was read
pub returns-in-Some-clause-taken : goal.returns-in-Some-clause-taken
returns-in-Some-clause-taken g c =
    let from = g.I.Source.rest c.args.input.now in
    let later = g.I.Source.rest c.next_line.new.input in
    let read = line-given (λ b. b.items) c.args.lines.now c.next_line.new.lines from later c.in-Ok.given c.in-Some.line c.deref.result.now c.in-Ok.ensures.given c.in-Some.is c.deref.ensures.value in
    took-early from later c.args.lines.now c.next_line.new.lines c.args.replica.now c.take_line.new.replica c.deref.result.now c.take_line.result read.0 c.take_line.ensures

pub returns-in-Some-clause-going : goal.returns-in-Some-clause-going
returns-in-Some-clause-going g c = going-early c.args.replica.now c.take_line.new.replica c.deref.result.now c.take_line.result c.take_line.ensures

pub returns-in-Some-clause-fewer : goal.returns-in-Some-clause-fewer
returns-in-Some-clause-fewer g c =
    let from = g.I.Source.rest c.args.input.now in
    let later = g.I.Source.rest c.next_line.new.input in
    let read = line-given (λ b. b.items) c.args.lines.now c.next_line.new.lines from later c.in-Ok.given c.in-Some.line c.deref.result.now c.in-Ok.ensures.given c.in-Some.is c.deref.ensures.value in
    on-ok c.take_line.result read.1

pub returns-in-Some-clause-ended : goal.returns-in-Some-clause-ended
returns-in-Some-clause-ended g c =
    let from = g.I.Source.rest c.args.input.now in
    let later = g.I.Source.rest c.next_line.new.input in
    let read = line-given (λ b. b.items) c.args.lines.now c.next_line.new.lines from later c.in-Ok.given c.in-Some.line c.deref.result.now c.in-Ok.ensures.given c.in-Some.is c.deref.ensures.value in
    refused-early from later c.args.lines.now c.next_line.new.lines c.args.replica.now c.take_line.new.replica c.deref.result.now c.take_line.result read.0 c.next_line.ensures.few c.take_line.ensures

pub returns-in-Some-clause-no_fault : goal.returns-in-Some-clause-no_fault
returns-in-Some-clause-no_fault g c = on-ok c.take_line.result c.in-Ok.ensures.no_fault

pub returns-in-Some-clause-fault : goal.returns-in-Some-clause-fault
returns-in-Some-clause-fault g c = λ is.
    absurd (unfailed-early c.args.replica.now c.take_line.new.replica c.deref.result.now c.take_line.result c.take_line.ensures is)

-- the input is at its end
pub returns-in-None-clause-ended : goal.returns-in-None-clause-ended
returns-in-None-clause-ended g c =
    let from = g.I.Source.rest c.args.input.now in
    let later = g.I.Source.rest c.next_line.new.input in
    let read = subst (λ l. GivesLine c.args.lines.now c.next_line.new.lines from later (option_map (λ b. b.items) l)) c.in-None.is c.in-Ok.ensures.given in
    λ rest h.
    ended-early rest from later c.args.lines.now c.next_line.new.lines c.args.replica.now c.early_end.result read.0 read.1 c.next_line.ensures.few c.requires.early c.early_end.ensures h

pub returns-in-None-clause-fault : goal.returns-in-None-clause-fault
returns-in-None-clause-fault g c = λ is.
    let same : c.early_end.result ≡ ReadFault = cc in
    absurd (subst (IsEarly (lines_taken c.args.replica.now)) same c.early_end.ensures)
