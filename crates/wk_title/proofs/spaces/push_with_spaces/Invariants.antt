use Rattle.std.proofs.Common.{◌≡◌, ◌+◌, ◌≤◌, ◌++◌, length, string_bytes, string_len, string_capacity}
use Rattle.std.specs.Str.Iter.{chars_rest}
use Rattle.wk_text_rules.specs.Titles.{with_spaces}
use Rattle.wk_title.proofs.spaces.push_with_spaces.Given as goal

abbrev pub invariant-loop-c : goal.invariant-loop-c
invariant-loop-c l =
    (goal.iterator-loop-c).can_next l.c-iterator
    × (goal.iterator-loop-c).is_finite l.c-iterator
    × (string_len l.into + length (chars_rest l.c-iterator) ≤ string_capacity l.into)
    × (string_bytes l.into ++ with_spaces (chars_rest l.c-iterator) ≡ string_bytes l.initial.into ++ with_spaces l.key)
