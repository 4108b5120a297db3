use Rattle.std.proofs.Common.{refl, ◌∙◌, subst}
use Rattle.wk_bytes.specs.Line.{line_in}
use Rattle.wk_lines.specs.Reading.{Gives}
use Rattle.wk_script_runs.proofs.Reading.{cut-between, cut-within, goes-on, lost-within, none-read}
use Rattle.wk_script.proofs.Going.{behind-last, restart-behind, writing-no-read}
use Rattle.wk_script.specs.declared.run.Next.TheVariants.{Goes, Stops, Lost}
use Rattle.wk_script.proofs.script.serve_all.Goals as goal
use Rattle.wk_script.proofs.script.serve_all.Goals.{in-Goes, in-Restarts+in-Goes-restart}

pub lines-init : goal.lines-init
lines-init g c =
    none-read _ _ _ _ _ _ _ _ _ (record { each = tt; rises = tt }) c.requires.no_ticket c.requires.no_point c.new-reader.ensures

-- the reading stopped
pub returns-in-Err-clause-next : goal.returns-in-Err-clause-next
returns-in-Err-clause-next g c =
    cut-between _ _ _ _ _ _ _ _ _ _ _ _ _ _ _ c.in-Err.stop c.lines.invariant c.in-Err.ensures.err c.next.ensures.few

-- a line couldn't be answered, or its answer not written
pub returns-in-Stops-clause-next : goal.returns-in-Stops-clause-next
returns-in-Stops-clause-next g c =
    let read = subst (Gives c.lines.reader c.next.new.self (g.I.Source.rest c.lines.input) (g.I.Source.rest c.next.new.input)) c.in-Inner.is c.in-Ok.ensures.ok in
    let behind = c.in-Stops.ensures.served in
    cut-within _ _ _ _ _ _ _ _ _ _ _ _ _ _ _ _ _ _ _ _ (line_in c.in-Inner.line) c.in-Stops.stop c.lines.invariant read.0 c.next.ensures.few behind.0 behind.1

-- a restart wasn't told of
pub returns-in-Stops-restart-clause-next : goal.returns-in-Stops-restart-clause-next
returns-in-Stops-restart-clause-next g c =
    let read = subst (Gives c.lines.reader c.next.new.self (g.I.Source.rest c.lines.input) (g.I.Source.rest c.next.new.input)) c.in-Inner.is c.in-Ok.ensures.ok in
    let behind = restart-behind _ _ _ _ (line_in c.in-Inner.line) _ _ _ _ _ (Stops c.in-Stops-restart.opened c.in-Stops-restart.stop) c.in-Restarts.ensures.served c.in-Stops-restart.ensures.next in
    cut-within _ _ _ _ _ _ _ _ _ _ _ _ _ _ _ _ _ _ _ _ (line_in c.in-Inner.line) c.in-Stops-restart.stop c.lines.invariant read.0 c.next.ensures.few behind.0 behind.1

-- and no read failed then
pub returns-in-Stops-restart-clause-read_cause : goal.returns-in-Stops-restart-clause-read_cause
returns-in-Stops-restart-clause-read_cause g c = λ is.
    let behind = restart-behind _ _ _ _ (line_in c.in-Inner.line) _ _ _ _ _ (Stops c.in-Stops-restart.opened c.in-Stops-restart.stop) c.in-Restarts.ensures.served c.in-Stops-restart.ensures.next in
    absurd (writing-no-read c.in-Stops-restart.stop behind.1 is)

-- a restart didn't open the store
pub returns-in-Lost-clause-next : goal.returns-in-Lost-clause-next
returns-in-Lost-clause-next g c =
    let read = subst (Gives c.lines.reader c.next.new.self (g.I.Source.rest c.lines.input) (g.I.Source.rest c.next.new.input)) c.in-Inner.is c.in-Ok.ensures.ok in
    let lost = restart-behind _ _ _ _ (line_in c.in-Inner.line) _ _ _ _ _ (Lost c.in-Lost.keeper c.in-Lost.points c.in-Lost.cause) c.in-Restarts.ensures.served c.in-Lost.ensures.next in
    lost-within _ _ _ _ _ _ _ _ c.in-Lost.cause c.in-Lost.keeper lost.0 _ _ _ _ lost.1 lost.2 lost.3 _ _ _ _ _ _ (line_in c.in-Inner.line)
    c.lines.invariant read.0 c.next.ensures.few

-- the line is answered, or the restart that it asks for is made
pub lines-preserved : goal.lines-preserved
lines-preserved g c =
    let read = subst (Gives c.lines.reader c.next.new.self (g.I.Source.rest c.lines.input) (g.I.Source.rest c.next.new.input)) c.in-Inner.is c.in-Ok.ensures.ok in
    elim c.match-serve_line.branch [
      | in-Goes w ↦
          rw w.run-is
          (rw w.output-is
          (goes-on _ _ _ _ _ _ _ _ _ _ _ _ _ _ _ _ _ _ _ _ _ _ (line_in c.in-Inner.line) c.lines.invariant read.0 w.in-Goes.ensures.served
          c.in-Ok.ensures.no_fault (w.in-Goes.ensures.no_fault refl)))
      | in-Restarts+in-Goes-restart w ↦
          rw w.run-is
          (rw w.output-is
          (goes-on _ _ _ _ _ _ _ _ _ _ _ _ _ _ _ _ _ _ _ _ _ _ (line_in c.in-Inner.line) c.lines.invariant read.0
          (restart-behind _ _ _ _ (line_in c.in-Inner.line) _ _ _ _ _ (Goes w.in-Goes-restart.opened) w.in-Restarts.ensures.served w.in-Goes-restart.ensures.next)
          c.in-Ok.ensures.no_fault (w.in-Goes-restart.ensures.no_fault refl ∙ w.in-Restarts.ensures.no_fault refl)))
    ]

pub lines-preserved-after-serve_line : goal.lines-preserved-after-serve_line
lines-preserved-after-serve_line g c =
    let read = subst (Gives c.lines.reader c.next.new.self (g.I.Source.rest c.lines.input) (g.I.Source.rest c.next.new.input)) c.in-Inner.is c.in-Ok.ensures.ok in
    elim c.match-serve_line.branch [
      | in-Goes w ↦
          rw w.run-is
          (rw w.output-is
          (goes-on _ _ _ _ _ _ _ _ _ _ _ _ _ _ _ _ _ _ _ _ _ _ (line_in c.in-Inner.line) c.lines.invariant read.0 w.in-Goes.ensures.served
          c.in-Ok.ensures.no_fault (w.in-Goes.ensures.no_fault refl)))
      | in-Restarts+in-Goes-restart w ↦
          rw w.run-is
          (rw w.output-is
          (goes-on _ _ _ _ _ _ _ _ _ _ _ _ _ _ _ _ _ _ _ _ _ _ (line_in c.in-Inner.line) c.lines.invariant read.0
          (restart-behind _ _ _ _ (line_in c.in-Inner.line) _ _ _ _ _ (Goes w.in-Goes-restart.opened) w.in-Restarts.ensures.served w.in-Goes-restart.ensures.next)
          c.in-Ok.ensures.no_fault (w.in-Goes-restart.ensures.no_fault refl ∙ w.in-Restarts.ensures.no_fault refl)))
    ]

-- the last line
pub returns-in-Last-clause-next : goal.returns-in-Last-clause-next
returns-in-Last-clause-next g c =
    let read = subst (Gives c.lines.reader c.next.new.self (g.I.Source.rest c.lines.input) (g.I.Source.rest c.next.new.input)) c.in-Last.is c.in-Ok.ensures.ok in
    behind-last _ _ _ c.lines.run _ _ _ _ _ _ _ _ _ _ _ (line_in c.in-Last.line) c.serve_last.result
    c.lines.invariant read c.next.ensures.few c.serve_last.ensures.next
