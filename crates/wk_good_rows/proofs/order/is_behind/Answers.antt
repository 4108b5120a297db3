use Rattle.std.proofs.Common.{◌∙◌, sym, ap, arith}
use Rattle.std.proofs.lemmas.List.{get_or_read}
use Rattle.wk_good_rows.proofs.Orders.{behind-decides}
use Rattle.wk_good_rows.proofs.order.is_behind.Goals as goal

pub returns : goal.returns
returns g c = λ row read.
    let before = g.T.InOrder.before in
    let rows = c.args.rows.now in
    let last = c.index-rows-place.result in
    let own = get_or_read rows c.args.place c.index-rows-place-2.result (omega (arith, c.requires.within)) c.index-rows-place-2.is row ∙ sym read in
    c.is_before.ensures ∙ ap (before last) own
    ∙ sym (behind-decides before c.requires.carries rows c.args.place last row (omega (arith, c.if-place-eq0.false)) c.requires.within c.index-rows-place.is c.requires.order)
