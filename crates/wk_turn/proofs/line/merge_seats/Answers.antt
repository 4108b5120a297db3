use Rattle.std.proofs.Common.{rules}
use Rattle.wk_turn.proofs.Steps.{joins, tells}
use Rattle.wk_turn.proofs.line.merge_seats.Goals as goal

pub join_seat-requires : goal.join_seat-requires
join_seat-requires g c = let idle = c.requires.idle in
    (search rules, search rules, idle.2, search rules, joins g.S.Storied.start g.S.Storied.journal g.S.Storied.closes _ _ _ _ _ idle.0 idle.1 idle.3)

pub load-requires : goal.load-requires
load-requires g c = (search rules, search rules, tells g.S.Storied.start g.S.Storied.journal g.S.Storied.closes _ _ _ _)
