use Rattle.std.proofs.Common.{◌++◌, refl, ap, ◌∙◌, arith, length-append}
use Rattle.wk_http.specs.Requests.{message_in}
use Rattle.wk_shared.specs.Calls.{MayFail, seen_by}
use Rattle.wk_session_rules.specs.Sessions.{Outside}
use Rattle.wk_messages.specs.Reading.{Reading}
use Rattle.wk_http.specs.declared.report.SessionEnd.TheVariants.{ReadFault, WriteFault}
use Rattle.wk_session.proofs.Ends.{counted-read, is-no-end, part-over, served-begun, served-more, session-closed, session-part, session-read, serves-over}
use Rattle.wk_session.proofs.session.serve_all.Goals as goal

pub messages-init : goal.messages-init
messages-init g c = record {
  served = served-begun (MayFail c.args.shared.now.start) (seen_by c.args.shared.now.start c.args.worker.now.reader.pass) _ c.new-messages.result c.args.points.now.items c.args.refreshes.now.items
      c.new-messages.ensures c.requires.no_point c.requires.no_refresh;
  free = c.requires.free;
  few = (let none = ap (λ (r : Reading). r.total) c.new-messages.ensures in omega (arith, none));
  read_faults = refl;
  write_faults = refl;
}

-- the reading ended
pub returns-in-Err-clause-session : goal.returns-in-Err-clause-session
returns-in-Err-clause-session g c =
    session-read (MayFail c.args.shared.now.start) _ _ _ _ c.messages.messages c.next.new.self _ _ c.messages.invariant.served _ _ _ _
    c.in-Err.end c.end_reading.result c.next.ensures.few c.in-Err.ensures.err c.next.ensures.written c.end_reading.ensures.rest c.end_reading.ensures.ended

pub returns-in-Err-clause-counted : goal.returns-in-Err-clause-counted
returns-in-Err-clause-counted g c =
    counted-read c.messages.messages c.next.new.self _ _ _ _ c.next.result c.in-Err.end c.end_reading.result _ _ _ _ _ _ _ _ c.in-Err.is c.in-Err.ensures.err c.end_reading.ensures.ended
    c.messages.invariant.read_faults c.messages.invariant.write_faults c.next.ensures.never_falls
    c.next.ensures.no_fault c.next.ensures.cause
    c.next.ensures.write_faults c.end_reading.ensures.read_faults c.end_reading.ensures.never_falls c.end_reading.ensures.no_fault c.end_reading.ensures.cause

-- a message wasn't answered in full
pub returns-in-Err-serve_one-clause-session : goal.returns-in-Err-serve_one-clause-session
returns-in-Err-serve_one-clause-session g c =
    let fails = MayFail c.args.shared.now.start in
    let start = c.args.shared.now.start in
    let middle : Outside = record { rest = g.L.Source.rest c.messages.link; moments = g.C.Clock.left c.messages.clock; taken = g.L.Sink.taken c.messages.link } in
    session-part fails _ _ (seen_by start c.messages.worker.reader.pass) middle c.messages.messages c.messages.points.items c.messages.refreshes.items c.messages.invariant.served
    c.next.new.self (g.L.Source.rest c.next.new.link) (message_in c.in-Ok.message) c.in-Ok.ensures.ok
    (seen_by start c.serve_one.new.worker.reader.pass) _ c.serve_one.new.points.items c.serve_one.new.refreshes.items c.in-Err-serve_one.end c.next.ensures.few c.in-Err-serve_one.ensures.served.1
    (part-over fails _ _ _ _ _ _ middle _ _ _ _ c.next.ensures.written refl c.in-Err-serve_one.ensures.served.0)

-- it was the last
pub returns-then-message-clause-session : goal.returns-then-message-clause-session
returns-then-message-clause-session g c =
    let fails = MayFail c.args.shared.now.start in
    let start = c.args.shared.now.start in
    let middle : Outside = record { rest = g.L.Source.rest c.messages.link; moments = g.C.Clock.left c.messages.clock; taken = g.L.Sink.taken c.messages.link } in
    session-closed fails _ _ (seen_by start c.messages.worker.reader.pass) middle c.messages.messages c.messages.points.items c.messages.refreshes.items c.messages.invariant.served
    c.next.new.self (g.L.Source.rest c.next.new.link) (message_in c.in-Ok.message) c.in-Ok.ensures.ok
    (seen_by start c.serve_one.new.worker.reader.pass) _ c.serve_one.new.points.items c.serve_one.new.refreshes.items
    (serves-over fails _ _ _ _ _ _ middle _ _ _ _ _ c.next.ensures.written refl c.in-Ok-serve_one.ensures.served)
    c.if-message.true c.next.ensures.few

pub messages-smaller : goal.messages-smaller
messages-smaller g c =
    let x = c.in-Ok.ensures.ok in
    let takes = c.a_message_is_short.ensures.takes (c.messages.messages.left ++ x.read) c.next.new.self.left (message_in c.in-Ok.message) x.is in
    let counted = x.counted in
    let few = c.next.ensures.few in
    omega (arith, takes, counted, few, length-append c.messages.messages.left x.read)

pub messages-preserved : goal.messages-preserved
messages-preserved g c =
    let fails = MayFail c.args.shared.now.start in
    let start = c.args.shared.now.start in
    let middle : Outside = record { rest = g.L.Source.rest c.messages.link; moments = g.C.Clock.left c.messages.clock; taken = g.L.Sink.taken c.messages.link } in
    record {
      served = served-more fails _ _ (seen_by start c.messages.worker.reader.pass) middle c.messages.messages c.messages.points.items c.messages.refreshes.items c.messages.invariant.served
          c.next.new.self (g.L.Source.rest c.next.new.link) (message_in c.in-Ok.message) c.in-Ok.ensures.ok
          (seen_by start c.serve_one.new.worker.reader.pass) _ c.serve_one.new.points.items c.serve_one.new.refreshes.items
          (serves-over fails _ _ _ _ _ _ middle _ _ _ _ _ c.next.ensures.written refl c.in-Ok-serve_one.ensures.served)
          c.if-message.false;
      free = c.serve_one.ensures.free;
      few = c.next.ensures.few;
      read_faults = c.serve_one.ensures.read_faults ∙ (c.next.ensures.no_fault (is-no-end c.next.result c.in-Ok.message ReadFault c.in-Ok.is) ∙ c.messages.invariant.read_faults);
      write_faults = c.serve_one.ensures.no_fault (is-no-end c.serve_one.result _ WriteFault c.in-Ok-serve_one.is) ∙ (c.next.ensures.write_faults ∙ c.messages.invariant.write_faults);
    }
