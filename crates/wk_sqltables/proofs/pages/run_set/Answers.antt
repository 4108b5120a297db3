use Rattle.std.proofs.Common.{◌≡◌, rules, w64, to_z, of_z}
use Rattle.wk_sqltables.proofs.pages.run_set.Goals as goal

pub returns-clause-runs : goal.returns-clause-runs
returns-clause-runs g c clean inside =
    let id : to_z w64 (of_z w64 c.args.id) ≡ c.args.id = search rules in
    let namespace : to_z w64 (of_z w64 c.args.namespace) ≡ c.args.namespace = search rules in
    let latest : to_z w64 (of_z w64 c.args.latest) ≡ c.args.latest = search rules in
    let len : to_z w64 (of_z w64 c.args.len) ≡ c.args.len = search rules in
    rw (c.as_bytes.ensures.value, id, namespace, latest, len) at (c.execute.ensures.runs clean inside)
