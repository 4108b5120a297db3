use Rattle.std.proofs.Common.{◌-◌, refl, sym, subst, arith}
use Rattle.std.proofs.lemmas.List.{get_or_read, take_all}
use Rattle.wk_table_rows.specs.Rising.{IsRising}
use Rattle.wk_table_rows.proofs.RisingLaws.{IsRising-more}
use Rattle.wk_table_rows.proofs.number.is_rising.Goals as goal

pub loop-i-preserved : goal.loop-i-preserved
loop-i-preserved g c =
    let number = g.T.Numbered.number in
    let items = c.args.items.now in
    let i = c.loop-i.i in
    IsRising-more number items i (omega arith) (omega arith) c.loop-i.invariant (λ d.
    rw (
      sym (get_or_read items i c.index-items-i.result (omega arith) c.index-items-i.is d),
      sym (get_or_read items (i - 1) c.index-items-i-in-loop-i.result (omega arith) c.index-items-i-in-loop-i.is d),
      sym c.number.ensures,
      sym c.number-in-loop-i.ensures,
    ) c.if-number.false)

pub returns : goal.returns
returns g c = (λ _. subst (IsRising g.T.Numbered.number) (take_all c.loop-i.i c.args.items.now (omega arith)) c.loop-i.invariant, λ _. refl)
