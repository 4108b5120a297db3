use Rattle.std.proofs.Common.{ap, ◌∙◌, ◌++◌, arith, take_all}
use Rattle.wk_out.proofs.RunLaws.{cut-with_runs, Covers-with_runs}
use Rattle.wk_out.proofs.run.add_runs.Goals as goal

pub returns-clause-runs : goal.returns-clause-runs
returns-clause-runs c =
    let all = c.loop-run.invariant.0 ∙ ap (λ rs. c.add_run.new.runs.items ++ rs) (take_all _ c.in-Some.others.now (omega arith)) in
    λ text more. cut-with_runs text more _ _ _ _ _ _ c.in-Some.ensures.cases.0 all c.add_run.ensures.runs c.add_run.ensures.covers

pub returns-clause-covers : goal.returns-clause-covers
returns-clause-covers c =
    let all = c.loop-run.invariant.0 ∙ ap (λ rs. c.add_run.new.runs.items ++ rs) (take_all _ c.in-Some.others.now (omega arith)) in
    λ text more. Covers-with_runs text more _ _ _ _ _ _ c.in-Some.ensures.cases.0 all c.add_run.ensures.covers
