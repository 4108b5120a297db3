use Rattle.std.proofs.Common.{ℕ, List, [], ◌∷◌, ◌++◌, refl, sym, ap, ◌∙◌, subst}
use Rattle.wk_script_lines.specs.Lines.{line_meant}
use Rattle.wk_script_runs.specs.Serving.{WritesFirst}
use Rattle.wk_script_runs.proofs.Serving.{nothing-first}
use Rattle.wk_script.proofs.Writing.{line-in-part, line-untold, line-written, on-err, on-ok}
use Rattle.wk_script.proofs.serving.serve.Goals as goal

-- there was no room for one more point
pub returns-in-Err-clause-err : goal.returns-in-Err-clause-err
returns-in-Err-clause-err g c = λ raw is.
    subst
    (λ (ps : List ℕ). WritesFirst g.K.Keeper.told g.K.Keeper.faults c.args.run.now.wiki c.args.run.now.wiki c.args.run.now.tickets.items c.args.run.now.tickets.items (raw ∷ [])
    (g.C.Clock.left c.args.clock.now) (g.C.Clock.left c.args.clock.now) (g.O.Sink.taken c.args.output.now) (g.O.Sink.taken c.args.output.now) c.args.run.now.points.items ps)
    (sym c.reserve.ensures.items)
    (nothing-first g.K.Keeper.told g.K.Keeper.faults c.args.run.now.wiki c.args.run.now.tickets.items (raw ∷ []) (g.C.Clock.left c.args.clock.now) (g.O.Sink.taken c.args.output.now)
    c.args.run.now.points.items c.requires.holds)

-- the answer was written
pub returns-in-Ok-clause-ok : goal.returns-in-Ok-clause-ok
returns-in-Ok-clause-ok g c =
    on-ok c.write_reply.result _ _
    (λ written raw is. line-written g.K.Keeper.told g.K.Keeper.faults (line_meant c.args.line) _ _ _ _ _ _ raw is _ _ _ _ c.point.result
    (c.push_reserved.ensures.items ∙ ap (λ ps. ps ++ c.point.result ∷ []) c.reserve.ensures.items) c.point.ensures c.in-Ok.value c.in-Ok.ensures written)
    c.write_reply.ensures.ok

-- or a prefix of it
pub returns-in-Ok-clause-err : goal.returns-in-Ok-clause-err
returns-in-Ok-clause-err g c =
    on-err c.write_reply.result _ _
    (λ written raw is. line-in-part g.K.Keeper.told g.K.Keeper.faults (line_meant c.args.line) _ _ _ _ _ _ raw is _ _ _ _ c.point.result
    (c.push_reserved.ensures.items ∙ ap (λ ps. ps ++ c.point.result ∷ []) c.reserve.ensures.items) c.point.ensures c.in-Ok.value c.in-Ok.ensures written)
    c.write_reply.ensures.err

-- memory was wanting for it
pub returns-in-Err-answered-clause-err : goal.returns-in-Err-answered-clause-err
returns-in-Err-answered-clause-err g c = λ raw is.
    line-untold g.K.Keeper.told g.K.Keeper.faults (line_meant c.args.line) _ _ _ _ _ _ raw is _ _ _ _ c.point.result
    (c.push_reserved.ensures.items ∙ ap (λ ps. ps ++ c.point.result ∷ []) c.reserve.ensures.items) c.point.ensures _ c.in-Err-answered.ensures refl
