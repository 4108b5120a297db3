use Rattle.std.proofs.Common.{◌≡◌, rules, w64, to_z, of_z}
use Rattle.wk_sqltables.proofs.members.add_member.Goals as goal

pub returns-clause-runs : goal.returns-clause-runs
returns-clause-runs g c clean inside =
    let page : to_z w64 (of_z w64 c.from.result) ≡ c.from.result = search rules in
    rw (c.key.ensures.value, c.as_str.ensures.value, c.as_str-2.ensures.value, page, c.from.ensures) at (c.run_add.ensures.runs clean inside)
