use Rattle.std.proofs.Common.{◌≡◌, rules, w64, to_z, of_z}
use Rattle.wk_sqltables.proofs.jobs.run_set.Goals as goal

pub returns-clause-runs : goal.returns-clause-runs
returns-clause-runs g c clean inside =
    let id : to_z w64 (of_z w64 c.args.id) ≡ c.args.id = search rules in
    let namespace : to_z w64 (of_z w64 c.args.namespace) ≡ c.args.namespace = search rules in
    rw (c.as_bytes.ensures.value, c.as_bytes-2.ensures.value, c.as_bytes-3.ensures.value, id, namespace) at (c.execute.ensures.runs clean inside)
