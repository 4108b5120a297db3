use Rattle.std.proofs.Common.{◌∙◌, ◌≡◌, ◌++◌, List, take, drop, length, ap, arith}
use Rattle.wk_table_rows.proofs.PageRowLaws.{as-items}
use Rattle.wk_table_rows.proofs.own_rows.bring_forward.Goals as goal

pub returns-clause-rows : goal.returns-clause-rows
returns-clause-rows g c =
    let F : List g.row.T.Denot → List g.row.T.Denot = λ rows. take c.args.place rows ++ drop c.args.end rows ++ drop c.args.place (take c.args.end rows) in
    let long : length c.rotate.new.rows ≡ length c.args.rows.now.items = c.rotate.auto.rows ∙ ap (length {A = g.row.T.Denot}) c.deref_mut.ensures.value in
    as-items c.rotate.new.rows c.args.rows.now.items c.args.rows.now.len long (omega arith) ∙ c.rotate.ensures ∙ ap F c.deref_mut.ensures.value
