use Rattle.std.proofs.Common.{rules}
use Rattle.std.proofs.lemmas.Fn.{always_returns_same}
use Rattle.wk_text_rules.specs.Titles.{title_cmp}
use Rattle.wk_index.proofs.OrderLaws.{only-found, only-none}
use Rattle.wk_index.proofs.order.only_place.Goals as goal

pub returns-in-Ok : goal.returns-in-Ok
returns-in-Ok g c =
    let title = g.T.Titled.title in
    let found = c.in-Ok.ensures.position (λ y. title_cmp (title y) c.args.title.now) (always_returns_same _ _ _ (λ a r q called. search rules)) in
    only-found title c.args.title.now c.args.items.now c.requires c.in-Ok.place c.in-Ok.ensures.bound found

pub returns-in-Err : goal.returns-in-Err
returns-in-Err g c =
    let title = g.T.Titled.title in
    let absent = c.in-Err.ensures.position (λ y. title_cmp (title y) c.args.title.now) (always_returns_same _ _ _ (λ a r q called. search rules)) in
    only-none title c.args.title.now c.args.items.now c.requires _ absent
