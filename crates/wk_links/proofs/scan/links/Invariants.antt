use Rattle.std.proofs.Common.{◌≡◌, ◌++◌, ◌-◌, ◌≤◌, length, drop, map}
use Rattle.wk_text_rules.specs.Occurrences.{occurrences}
use Rattle.wk_links.specs.Found.{occurrence_in}
use Rattle.wk_links.specs.Rest.{occurrences_from}
use Rattle.wk_links.specs.Seen.{seen}
use Rattle.wk_links.proofs.scan.links.Given as goal

abbrev pub invariant-loop-at : goal.invariant-loop-at
invariant-loop-at l =
    (l.at ≤ length l.bytes.items) × (l.bytes.items ≡ seen l.out)
    × (map occurrence_in l.found.items ++ occurrences_from l.at (drop l.at l.out) ≡ occurrences l.out)

abbrev pub decreases-loop-at : goal.decreases-loop-at
decreases-loop-at l = length l.bytes.items - l.at
