use Rattle.std.proofs.Common.{◌≡◌, find, drop}
use Rattle.wk_script_steps.specs.Drafts.{has_number}
use Rattle.wk_script_steps.proofs.list.place.Given as goal

abbrev pub invariant-loop-at : goal.invariant-loop-at
invariant-loop-at l = find (has_number l.number) l.tickets ≡ find (has_number l.number) (drop l.at l.tickets)
