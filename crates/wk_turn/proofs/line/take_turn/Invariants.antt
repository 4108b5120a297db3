use Rattle.std.proofs.Common.{◌≡◌}
use Rattle.wk_turn.proofs.line.take_turn.Given as goal

abbrev pub invariant-waiting : goal.invariant-waiting
invariant-waiting g l = (l.place.table_id ≡ l.initial.place.table_id) × (l.place.id ≡ l.initial.place.id) × (l.place.me ≡ l.initial.place.me)
