use Rattle.std.proofs.Common.{◌≡◌, rules, w64, to_z, of_z}
use Rattle.wk_sqltables.proofs.members.run_add.Goals as goal

pub returns-clause-runs : goal.returns-clause-runs
returns-clause-runs g c clean inside =
    let page : to_z w64 (of_z w64 c.args.page) ≡ c.args.page = search rules in
    rw (c.as_bytes.ensures.value, c.as_bytes-2.ensures.value, c.as_bytes-3.ensures.value, page) at (c.execute_prepared.ensures.runs clean inside)
