use Rattle.std.proofs.Common.{rules, refl}
use Rattle.wk_turn.proofs.Steps.{counts}
use Rattle.wk_turn.proofs.line.count_seat.Goals as goal

pub compare_exchange-requires : goal.compare_exchange-requires
compare_exchange-requires g c = (search rules, search rules, counts g.S.Storied.start g.S.Storied.journal g.S.Storied.closes _ _ _ _ _ _ (search rules) refl (search rules))
