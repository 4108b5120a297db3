use Rattle.std.proofs.Common.{◌∷◌, ◌++◌, [], ◌<◌, length, take, sym, ap, ◌∙◌, arith}
use Rattle.std.proofs.lemmas.List.{take_more, take_more_set, length-set}
use Rattle.wk_title.proofs.ascii.widen.Goals as goal

pub loop-i-preserved : goal.loop-i-preserved
loop-i-preserved c =
    let fits : c.loop-i.i < length c.loop-i.into = omega (arith, c.loop-i.invariant.1, c.requires, c.loop-i-test.true) in (
      take_more_set c.loop-i.into c.loop-i.i c.from.result fits
          ∙ ap (λ l. l ++ c.from.result ∷ []) c.loop-i.invariant.0
          ∙ ap (λ y. take c.loop-i.i c.args.bytes.now ++ y ∷ []) c.from.ensures
          ∙ sym (take_more c.args.bytes.now c.loop-i.i 0 c.loop-i-test.true),
      length-set c.loop-i.into c.loop-i.i c.from.result ∙ c.loop-i.invariant.1,
    )
