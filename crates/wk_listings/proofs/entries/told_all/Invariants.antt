use Rattle.std.proofs.Common.{◌≡◌, map, take}
use Rattle.serde_json.specs.View.{view}
use Rattle.wk_answer_rules.specs.Values.{object_of}
use Rattle.wk_listings.specs.Owners.{numbered_at}
use Rattle.wk_listings.specs.Shapes.{entries_in}
use Rattle.wk_listings.proofs.entries.told_all.Given as goal

abbrev pub invariant-loop-number : goal.invariant-loop-number
invariant-loop-number l = map view l.values.items ≡ map (λ number. object_of (entries_in l.revs.history l.shape (numbered_at l.revs.history number))) (take l.number-index l.numbers)
