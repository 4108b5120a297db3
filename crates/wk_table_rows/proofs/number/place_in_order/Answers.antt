use Rattle.std.proofs.Common.{rules}
use Rattle.std.proofs.lemmas.List.Sorted.{answers_always}
use Rattle.wk_table_rows.proofs.RisingLaws.{position-found, position-absent}
use Rattle.wk_table_rows.proofs.number.place_in_order.Goals as goal

pub returns-in-Ok : goal.returns-in-Ok
returns-in-Ok g c =
    let found = c.in-Ok.ensures.position g.T.Numbered.number (answers_always _ _ _ (λ f a r h called. search rules)) in
    position-found g.T.Numbered.number c.args.number c.args.items.now c.requires c.in-Ok.place c.in-Ok.ensures.bound found

pub returns-in-Err : goal.returns-in-Err
returns-in-Err g c =
    let absent = c.in-Err.ensures.position g.T.Numbered.number (answers_always _ _ _ (λ f a r h called. search rules)) in
    position-absent g.T.Numbered.number c.args.number c.args.items.now c.requires _ absent
