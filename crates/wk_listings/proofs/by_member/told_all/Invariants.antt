use Rattle.std.proofs.Common.{◌≡◌, map, take}
use Rattle.serde_json.specs.View.{view}
use Rattle.wk_answer_rules.specs.Lists.{member_entries}
use Rattle.wk_answer_rules.specs.Values.{object_of}
use Rattle.wk_listings.proofs.by_member.told_all.Given as goal

abbrev pub invariant-loop-member : goal.invariant-loop-member
invariant-loop-member l = map view l.values.items ≡ map (λ member. object_of (member_entries l.revs.history member)) (take l.member-index l.members)
