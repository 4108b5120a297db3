use Rattle.std.proofs.Common.{◌++◌, [], ◌∷◌}
use Rattle.wk_http.proofs.TargetLemmas.{blank_push}
use Rattle.wk_http.proofs.target.after_empty_lines.Goals as goal

pub loop-rest-preserved : goal.loop-rest-preserved
loop-rest-preserved c =
    let found = c.in-Some.ensures.found in
    (c.loop-rest.invariant.0 ++ found.0 ∷ [], blank_push _ found.0 _ c.loop-rest.left.now c.in-Some.rest.now c.loop-rest.invariant.1 found.1)
