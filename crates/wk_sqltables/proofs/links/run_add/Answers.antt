use Rattle.std.proofs.Common.{◌≡◌, rules, w64, to_z, of_z}
use Rattle.wk_sqltables.proofs.links.run_add.Goals as goal

pub returns-clause-runs : goal.returns-clause-runs
returns-clause-runs g c clean inside =
    let page : to_z w64 (of_z w64 c.args.page) ≡ c.args.page = search rules in
    let namespace : to_z w64 (of_z w64 c.args.namespace) ≡ c.args.namespace = search rules in
    let target : to_z w64 (of_z w64 c.args.target) ≡ c.args.target = search rules in
    rw (c.as_bytes.ensures.value, page, namespace, target) at (c.execute_prepared.ensures.runs clean inside)
