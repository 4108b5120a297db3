use Rattle.std.proofs.Common.{◌≡◌, ◌-◌, ◌∙◌, sym, subst, arith}
use Rattle.std.specs.declared.cmp.Ordering.TheVariants.{Less}
use Rattle.std.proofs.lemmas.List.{get_or_read, take_all}
use Rattle.wk_index.specs.InOrder.{IsInOrder}
use Rattle.wk_index.proofs.OrderLaws.{IsInOrder-more, less-of}
use Rattle.wk_index.proofs.order.is_in_order.Goals as goal

pub loop-i-preserved : goal.loop-i-preserved
loop-i-preserved g c =
    let title = g.T.Titled.title in
    let items = c.args.items.now in
    let i = c.loop-i.i in
    let less : c.cmp.result ≡ Less = less-of c.cmp.result (sym c.is_lt.ensures ∙ c.if-not-is_lt.false) in
    IsInOrder-more title items i (omega arith) (omega arith) c.loop-i.invariant (λ d.
    rw (
      sym (get_or_read items (i - 1) c.index-items-i.result (omega arith) c.index-items-i.is d),
      sym (get_or_read items i c.index-items-i-in-loop-i.result (omega arith) c.index-items-i-in-loop-i.is d),
      sym c.title.ensures,
      sym c.title-in-loop-i.ensures,
    ) (sym c.cmp.ensures ∙ less))

pub returns : goal.returns
returns g c = λ _. subst (IsInOrder g.T.Titled.title) (take_all c.loop-i.i c.args.items.now (omega arith)) c.loop-i.invariant
