use Rattle.std.proofs.Common.{◌≡◌, rules, w64, to_z, of_z}
use Rattle.wk_sqltables.proofs.revisions.run_add.Goals as goal

pub returns-clause-runs : goal.returns-clause-runs
returns-clause-runs g c clean inside =
    let n = c.args.numbers in
    let id : to_z w64 (of_z w64 n.id) ≡ n.id = search rules in
    let page : to_z w64 (of_z w64 n.page) ≡ n.page = search rules in
    let parent : to_z w64 (of_z w64 n.parent) ≡ n.parent = search rules in
    let moment : to_z w64 (of_z w64 n.moment) ≡ n.moment = search rules in
    let len : to_z w64 (of_z w64 n.len) ≡ n.len = search rules in
    let gone : to_z w64 (of_z w64 n.gone) ≡ n.gone = search rules in
    rw (c.as_bytes.ensures.value, id, page, parent, moment, len, gone) at (c.execute.ensures.runs clean inside)
