use Rattle.std.proofs.Common.{◌≡◌, ◌-◌, ◌++◌, map}
use Rattle.wk_listings.specs.Owners.{falling, numbered_at}
use Rattle.wk_listings.proofs.numbers.numbers_below.Given as goal

abbrev pub invariant-steps : goal.invariant-steps
invariant-steps l = map (numbered_at l.revs.history) l.numbers.items ++ falling l.revs.history l.owner l.end (l.most - l.step) ≡ falling l.revs.history l.owner l.below l.most
