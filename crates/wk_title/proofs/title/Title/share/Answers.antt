use Rattle.std.proofs.Common.{◌≡◌, arith, w8}
use Rattle.std.proofs.lemmas.Int.{ints}
use mir.Val.{to_z, of_z}
use Rattle.wk_title.proofs.title.Title.share.Goals as goal

pub invariant_of-result : goal.invariant_of-result
invariant_of-result c =
    let same : to_z w8 (of_z w8 c.self.inside.ns) ≡ c.self.inside.ns = omega (arith, ints) in
    rw (same, c.in_ok-key.ensures) c.self.invariant
