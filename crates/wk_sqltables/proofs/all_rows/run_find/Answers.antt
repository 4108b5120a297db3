use Rattle.std.proofs.Common.{◌≡◌, rules, w64, to_z, of_z}
use Rattle.wk_sqltables.proofs.all_rows.run_find.Goals as goal

pub returns-clause-runs : goal.returns-clause-runs
returns-clause-runs g c clean =
    let page : to_z w64 (of_z w64 c.args.page) ≡ c.args.page = search rules in
    rw page at (c.query_row.ensures.row clean)
