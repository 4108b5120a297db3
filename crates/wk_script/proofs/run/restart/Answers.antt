use Rattle.std.proofs.Common.{ℕ, List, [], ◌∷◌, ◌++◌, sym, ap, ◌∙◌, subst}
use Rattle.wk_script_runs.specs.Serving.{WritesFirst}
use Rattle.wk_script_runs.proofs.Serving.{nothing-first}
use Rattle.wk_script.proofs.Restarted.{told-behind}
use Rattle.wk_script.proofs.run.restart.Goals as goal

-- there was no room for one more point
pub returns-in-Err-clause-next : goal.returns-in-Err-clause-next
returns-in-Err-clause-next g c = λ raw left is. (
  subst
      (λ (ps : List ℕ). WritesFirst g.K.Keeper.told g.K.Keeper.faults c.args.run.wiki c.args.run.wiki c.args.run.tickets.items c.args.run.tickets.items (raw ∷ []) left left
      (g.O.Sink.taken c.args.output.now) (g.O.Sink.taken c.args.output.now) c.args.run.points.items ps)
      (sym c.reserve.ensures.items)
      (nothing-first g.K.Keeper.told g.K.Keeper.faults c.args.run.wiki c.args.run.tickets.items (raw ∷ []) left (g.O.Sink.taken c.args.output.now) c.args.run.points.items c.requires.holds),
  tt,
)

-- the wiki was opened anew
pub returns-in-Ok-clause-next : goal.returns-in-Ok-clause-next
returns-in-Ok-clause-next g c = λ raw left is.
    told-behind g.K.Keeper.told g.K.Keeper.faults c.args.run
    (record { wiki = c.in-Ok.wiki; tickets = c.new.result; trees = c.args.run.trees; points = c.push_reserved.new.self })
    left (g.O.Sink.taken c.args.output.now) (g.O.Sink.taken c.tell_restart.new.output) raw c.tell_restart.result is c.in-Ok.ensures.ok c.new.ensures.items
    (c.push_reserved.ensures.items ∙ ap (λ ps. ps ++ c.point.result ∷ []) c.reserve.ensures.items ∙ ap (λ n. c.args.run.points.items ++ n ∷ []) c.point.ensures)
    c.tell_restart.ensures.next
