use Rattle.std.proofs.Common.{◌≡◌, ◌∷◌, subst}
use Rattle.std.proofs.lemmas.List.Elements.{All-tail}
use Rattle.std.specs.List.{All}
use Rattle.std.specs.Slice.Iter.{iter_rest}
use Rattle.wk_probe.proofs.KnownItems.{items-known}
use Rattle.wk_probe.specs.Known.{IsKnown}
use Rattle.wk_probe.proofs.trees.+shown.Goals as goal

-- src/trees.rt:103:5
pub list_value-loop-item-init : goal.list_value-loop-item-init
list_value-loop-item-init t c =
    let same : iter_rest c.items-item-items.result ≡ iter_rest c.into_iter-item-iterator.result = cc in
    let known = items-known c.args.parsed.now c.args.list (iter_rest c.items-item-items.result) c.requires c.items-item-items.ensures.items in
    (tt, tt, subst (λ xs. All (IsKnown c.args.parsed.now) xs) same known)

-- src/trees.rt:103:5
pub list_value-loop-item-preserved : goal.list_value-loop-item-preserved
list_value-loop-item-preserved t c =
    let step : iter_rest c.loop-item.item-iterator ≡ c.in-Some.item.now ∷ iter_rest c.next.new.self = c.in-Some.ensures.steps in (
      tt,
      tt,
      All-tail (IsKnown c.args.parsed.now) c.in-Some.item.now (iter_rest c.next.new.self)
          (subst (λ xs. All (IsKnown c.args.parsed.now) xs) step c.loop-item.invariant.2),
    )
