use Rattle.std.proofs.Common.{rules}
use Rattle.wk_turn.proofs.Steps.{splits}
use Rattle.wk_turn.proofs.line.split_seat.Goals as goal

pub split_seat-requires : goal.split_seat-requires
split_seat-requires g c = (search rules, search rules, splits g.S.Storied.start g.S.Storied.journal g.S.Storied.closes _ _ _ (search rules))
