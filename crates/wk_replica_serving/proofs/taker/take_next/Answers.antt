use Rattle.std.proofs.Common.{◌≡◌, ap, subst, inl, inr, refl, ◌∙◌}
use Rattle.std.specs.Prelude.{Err, option_map}
use Rattle.wk_replica_serving.specs.Reads.{GivesLine}
use Rattle.wk_replica_serving.specs.declared.ends.FeedEnd.TheVariants.{Ended, ReadFault}
use Rattle.wk_replica_serving.proofs.FeedLaws.{line-given, not-ended, on-ok}
use Rattle.wk_replica_serving.proofs.SharedLaws.{ended-shared, refused-shared, took-shared, unfailed-shared, unread-shared}
use Rattle.wk_replica_serving.proofs.taker.take_next.Goals as goal

-- nothing was read
pub returns-in-Err-clause-ended : goal.returns-in-Err-clause-ended
returns-in-Err-clause-ended g c =
    unread-shared c.args.shared.now c.args.pass.now (g.I.Source.rest c.args.input.now) (g.I.Source.rest c.next_line.new.input) c.args.lines.now c.next_line.new.lines c.in-Err.end c.in-Err.ensures.ended

pub returns-in-Err-clause-no_fault_at_end : goal.returns-in-Err-clause-no_fault_at_end
returns-in-Err-clause-no_fault_at_end g c = λ is.
    let same : c.in-Err.end ≡ Ended = cc in
    absurd (not-ended c.args.lines.now c.next_line.new.lines (g.I.Source.rest c.args.input.now) (g.I.Source.rest c.next_line.new.input) c.in-Err.end c.in-Err.ensures.ended same)

pub returns-in-Err-clause-fault : goal.returns-in-Err-clause-fault
returns-in-Err-clause-fault g c = λ is.
    let same : c.in-Err.end ≡ ReadFault = cc in
    c.next_line.ensures.fault (c.in-Err.is ∙ ap Err same)

-- a line was read
pub returns-in-Some-clause-taken : goal.returns-in-Some-clause-taken
returns-in-Some-clause-taken g c =
    let from = g.I.Source.rest c.args.input.now in
    let later = g.I.Source.rest c.next_line.new.input in
    let read = line-given (λ b. b.items) c.args.lines.now c.next_line.new.lines from later c.in-Ok.given c.in-Some.line c.deref.result.now c.in-Ok.ensures.given c.in-Some.is c.deref.ensures.value in
    took-shared c.args.shared.now c.args.pass.now c.take_line.new.pass from later c.args.lines.now c.next_line.new.lines c.deref.result.now c.take_line.result
    read.0 c.next_line.ensures.few c.take_line.ensures.taken

pub returns-in-Some-clause-fewer : goal.returns-in-Some-clause-fewer
returns-in-Some-clause-fewer g c =
    let from = g.I.Source.rest c.args.input.now in
    let later = g.I.Source.rest c.next_line.new.input in
    let read = line-given (λ b. b.items) c.args.lines.now c.next_line.new.lines from later c.in-Ok.given c.in-Some.line c.deref.result.now c.in-Ok.ensures.given c.in-Some.is c.deref.ensures.value in
    on-ok c.take_line.result read.1

pub returns-in-Some-clause-ended : goal.returns-in-Some-clause-ended
returns-in-Some-clause-ended g c =
    let from = g.I.Source.rest c.args.input.now in
    let later = g.I.Source.rest c.next_line.new.input in
    let read = line-given (λ b. b.items) c.args.lines.now c.next_line.new.lines from later c.in-Ok.given c.in-Some.line c.deref.result.now c.in-Ok.ensures.given c.in-Some.is c.deref.ensures.value in
    refused-shared c.args.shared.now c.args.pass.now c.take_line.new.pass from later c.args.lines.now c.next_line.new.lines c.deref.result.now c.take_line.result
    read.0 c.next_line.ensures.few c.take_line.ensures.taken

pub returns-in-Some-clause-no_fault : goal.returns-in-Some-clause-no_fault
returns-in-Some-clause-no_fault g c = on-ok c.take_line.result c.in-Ok.ensures.no_fault

pub returns-in-Some-clause-no_fault_at_end : goal.returns-in-Some-clause-no_fault_at_end
returns-in-Some-clause-no_fault_at_end g c = λ is.
    absurd (unfailed-shared c.args.shared.now c.args.pass.now c.take_line.new.pass c.deref.result.now c.take_line.result Ended c.take_line.ensures.taken (inr refl) is)

pub returns-in-Some-clause-fault : goal.returns-in-Some-clause-fault
returns-in-Some-clause-fault g c = λ is.
    absurd (unfailed-shared c.args.shared.now c.args.pass.now c.take_line.new.pass c.deref.result.now c.take_line.result ReadFault c.take_line.ensures.taken (inl refl) is)

-- the input is at its end
pub returns-in-None-clause-ended : goal.returns-in-None-clause-ended
returns-in-None-clause-ended g c =
    let from = g.I.Source.rest c.args.input.now in
    let later = g.I.Source.rest c.next_line.new.input in
    let read = subst (λ l. GivesLine c.args.lines.now c.next_line.new.lines from later (option_map (λ b. b.items) l)) c.in-None.is c.in-Ok.ensures.given in
    ended-shared c.args.shared.now c.args.pass.now from later c.args.lines.now c.next_line.new.lines read.0 read.1 c.next_line.ensures.few
