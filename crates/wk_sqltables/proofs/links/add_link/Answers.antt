use Rattle.std.proofs.Common.{◌≡◌, rules, arith, w8, w64, to_z, of_z}
use Rattle.std.proofs.lemmas.Int.{ints}
use Rattle.wk_sqltables.proofs.links.add_link.Goals as goal

pub returns-clause-runs : goal.returns-clause-runs
returns-clause-runs g c clean inside =
    let page : to_z w64 (of_z w64 c.from.result) ≡ c.from.result = search rules in
    let namespace : to_z w64 (of_z w64 c.args.from.namespace) ≡ c.args.from.namespace = search rules in
    let target : to_z w64 (of_z w64 c.from-2.result) ≡ c.from-2.result = search rules in
    let narrow : to_z w8 (of_z w8 c.ns.result) ≡ c.ns.result = first_of (search rules, omega (arith, ints)) in
    rw (c.key.ensures.value, page, namespace, target, c.from.ensures, c.from-2.ensures, narrow, c.ns.ensures) at (c.run_add.ensures.runs clean inside)
