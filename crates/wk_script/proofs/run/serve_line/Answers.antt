use Rattle.std.proofs.Common.{◌≡◌, ℕ, List, Some, Option, refl, sym, ap, ◌∙◌, subst}
use Rattle.std.specs.Option.{option_to_list}
use Rattle.std.specs.Prelude.{Err, option_map}
use Rattle.wk_bytes.specs.Line.{line_in}
use Rattle.wk_lines.specs.declared.stop.Stop.TheVariants.{WriteFault}
use Rattle.wk_script_lines.specs.Lines.{line_meant}
use Rattle.wk_script_rules.specs.ScriptLines.{empty_line, restart_line}
use Rattle.wk_script_runs.specs.Served.{Writes}
use Rattle.wk_script_runs.specs.Serving.{WritesFirst}
use Rattle.wk_script_runs.proofs.Serving.{nothing-written}
use Rattle.wk_script.proofs.Going.{no-line, one-line}
use Rattle.wk_script.proofs.Writing.{empty-written}
use Rattle.wk_script.proofs.run.serve_line.Goals as goal

-- a restart
pub returns-in-Some-Restart-clause-served : goal.returns-in-Some-Restart-clause-served
returns-in-Some-Restart-clause-served g c = (
  refl,
  refl,
  refl,
  one-line restart_line (line_in c.args.line.now)
      (sym (ap (λ o. option_to_list (option_map line_meant o)) (c.in-Some-Restart.is ∙ ap Some c.in-Some-Restart.field-0-is)) ∙ c.script_line.ensures),
)

-- it is answered, and the answer written
pub returns-in-Ok : goal.returns-in-Ok
returns-in-Ok g c =
    let one = one-line (line_meant c.in-Some.line) (line_in c.args.line.now)
    (sym (ap (λ o. option_to_list (option_map line_meant o)) c.in-Some.is) ∙ c.script_line.ensures) in
    record {
      served = subst
          (λ (ls : List (Option (List ℕ))). Writes g.K.Keeper.told g.K.Keeper.faults c.args.run.now.wiki c.serve.new.run.wiki c.args.run.now.tickets.items c.serve.new.run.tickets.items ls
          (g.C.Clock.left c.args.clock.now) (g.C.Clock.left c.serve.new.clock) (g.O.Sink.taken c.args.output.now) (g.O.Sink.taken c.serve.new.output)
          c.args.run.now.points.items c.serve.new.run.points.items)
          (sym one.1) (c.in-Ok.ensures.ok one.0 one.2);
      never_falls = c.serve.ensures.never_falls;
      no_fault = λ is. c.in-Ok.ensures.no_fault;
      cause = λ is. absurd (cc is);
    }

-- or the run stops
pub returns-in-Err : goal.returns-in-Err
returns-in-Err g c =
    let one = one-line (line_meant c.in-Some.line) (line_in c.args.line.now)
    (sym (ap (λ o. option_to_list (option_map line_meant o)) c.in-Some.is) ∙ c.script_line.ensures) in
    record {
      served = (
        subst
            (λ (ls : List (Option (List ℕ))). WritesFirst g.K.Keeper.told g.K.Keeper.faults c.args.run.now.wiki c.serve.new.run.wiki c.args.run.now.tickets.items c.serve.new.run.tickets.items ls
            (g.C.Clock.left c.args.clock.now) (g.C.Clock.left c.serve.new.clock) (g.O.Sink.taken c.args.output.now) (g.O.Sink.taken c.serve.new.output)
            c.args.run.now.points.items c.serve.new.run.points.items)
            (sym one.1) (c.in-Err.ensures.err one.0 one.2),
        c.in-Err.ensures.stops,
      );
      never_falls = c.serve.ensures.never_falls;
      no_fault = λ is. absurd (cc is);
      cause = λ is. let e : c.in-Err.stop ≡ WriteFault = cc in c.in-Err.ensures.cause (ap Err e);
    }

-- no line
pub returns-in-None-clause-served : goal.returns-in-None-clause-served
returns-in-None-clause-served g c =
    subst
    (λ (ls : List (Option (List ℕ))). Writes g.K.Keeper.told g.K.Keeper.faults c.args.run.now.wiki c.args.run.now.wiki c.args.run.now.tickets.items c.args.run.now.tickets.items ls
    (g.C.Clock.left c.args.clock.now) (g.C.Clock.left c.args.clock.now) (g.O.Sink.taken c.args.output.now) (g.O.Sink.taken c.args.output.now)
    c.args.run.now.points.items c.args.run.now.points.items)
    (sym (no-line (line_in c.args.line.now) (sym (ap (λ o. option_to_list (option_map line_meant o)) c.in-None.is) ∙ c.script_line.ensures)))
    (nothing-written g.K.Keeper.told g.K.Keeper.faults c.args.run.now.wiki c.args.run.now.tickets.items (g.C.Clock.left c.args.clock.now) (g.O.Sink.taken c.args.output.now)
    c.args.run.now.points.items c.requires.holds)

-- a line without bytes
pub returns-in-Some-Empty-clause-served : goal.returns-in-Some-Empty-clause-served
returns-in-Some-Empty-clause-served g c =
    let one = one-line empty_line (line_in c.args.line.now)
    (sym (ap (λ o. option_to_list (option_map line_meant o)) (c.in-Some-Empty.is ∙ ap Some c.in-Some-Empty.field-0-is)) ∙ c.script_line.ensures) in
    subst
    (λ (ls : List (Option (List ℕ))). Writes g.K.Keeper.told g.K.Keeper.faults c.args.run.now.wiki c.args.run.now.wiki c.args.run.now.tickets.items c.args.run.now.tickets.items ls
    (g.C.Clock.left c.args.clock.now) (g.C.Clock.left c.args.clock.now) (g.O.Sink.taken c.args.output.now) (g.O.Sink.taken c.args.output.now)
    c.args.run.now.points.items c.args.run.now.points.items)
    (sym one.1)
    (empty-written g.K.Keeper.told g.K.Keeper.faults c.args.run.now.wiki c.args.run.now.tickets.items (g.C.Clock.left c.args.clock.now) (g.O.Sink.taken c.args.output.now)
    c.args.run.now.points.items one.0 c.requires.holds one.2)
