use Rattle.std.proofs.Common.{◌≡◌, map, max, take}
use Rattle.std.specs.List.{fold}
use Rattle.wk_jobs.proofs.numbers.greatest.Given as goal

abbrev pub invariant-loop-item : goal.invariant-loop-item
invariant-loop-item g l = l.greatest ≡ fold max l.fn.number (map g.T.Numbered.number (take l.item-index l.items))
