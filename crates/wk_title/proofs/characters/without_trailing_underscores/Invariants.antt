use Rattle.std.proofs.Common.{length, ◌≡◌, ◌+◌, ◌≤◌, take}
use Rattle.std.specs.List.{suffix_len}
use Rattle.wk_text_rules.specs.Titles.{is_underscore}
use Rattle.wk_title.proofs.characters.without_trailing_underscores.Given as goal

abbrev pub invariant-loop-end : goal.invariant-loop-end
invariant-loop-end l =
    (l.end ≤ length l.cs)
    × (l.end + suffix_len is_underscore l.cs ≡ length l.cs + suffix_len is_underscore (take l.end l.cs))

abbrev pub decreases-loop-end : goal.decreases-loop-end
decreases-loop-end l = l.end
