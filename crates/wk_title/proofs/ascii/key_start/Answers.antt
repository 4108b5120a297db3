use Rattle.std.proofs.Common.{◌≡◌, arith, w8}
use Rattle.std.proofs.lemmas.Int.{ints}
use mir.Val.{to_z, of_z}
use Rattle.wk_title.proofs.AsciiTitles.{key_start-from}
use Rattle.wk_title.proofs.ascii.key_start.Goals as goal

pub overflow_sub-result : goal.overflow_sub-result
overflow_sub-result c =
    (key_start-from c.args.words.now _ c.args.default_ns _ c.after_leading_colon-asked.result.0 _ c.after_namespace-ns.result.0 c.after_leading_colon-asked.result.1.now c.after_namespace-ns.result.1.now
    c.widen.ensures (omega (arith, ints)) (omega (arith, ints)) c.after_leading_colon-asked.ensures c.after_namespace-ns.ensures).0

pub returns-clause-placed : goal.returns-clause-placed
returns-clause-placed c =
    let placed_same : to_z w8 (of_z w8 c.after_namespace-ns.result.0) ≡ c.after_namespace-ns.result.0 = omega (arith, ints) in
    rw placed_same (
    (key_start-from c.args.words.now _ c.args.default_ns _ c.after_leading_colon-asked.result.0 _ c.after_namespace-ns.result.0 c.after_leading_colon-asked.result.1.now c.after_namespace-ns.result.1.now
    c.widen.ensures (omega (arith, ints)) (omega (arith, ints)) c.after_leading_colon-asked.ensures c.after_namespace-ns.ensures).1
    )
