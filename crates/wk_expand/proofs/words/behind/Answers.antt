use Rattle.std.proofs.Common.{◌≡◌, ◌+◌, ◌-◌, arith, subst}
use Rattle.std.specs.Str.{IsCharBoundary}
use Rattle.std.proofs.lemmas.Str.{IsCharBoundary-after_ascii}
use Rattle.wk_expand.proofs.words.behind.Goals as goal

pub range_from-requires : goal.range_from-requires
range_from-requires c =
    λ positive.
    let same : c.args.place - 1 + 1 ≡ c.args.place = omega (arith, c.requires.some) in
    subst (λ n. IsCharBoundary c.args.text.now n) same (IsCharBoundary-after_ascii c.args.text.now (c.args.place - 1) c.utf8.text (omega (arith, c.requires.some, c.requires.within)) c.requires.ascii)
