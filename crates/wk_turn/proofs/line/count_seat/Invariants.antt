use Rattle.std.proofs.Common.{◌≡◌}
use Rattle.wk_turn.proofs.line.count_seat.Given as goal

abbrev pub invariant-counting : goal.invariant-counting
invariant-counting g l = (l.place.table_id ≡ l.fn.place.table_id) × (l.place.id ≡ l.fn.place.id) × (l.place.me ≡ l.fn.place.me)
