use Rattle.std.proofs.Common.{◌≡◌, ◌++◌, length, string_bytes}
use denote.Text.{Utf8}
use denote.Shadow.{shadow}
use Rattle.wk_text_rules.specs.Titles.{with_spaces}
use Rattle.wk_rows.proofs.members.spaced_key.Given as goal

abbrev pub invariant-loop-word : goal.invariant-loop-word
invariant-loop-word l =
    shadow (Utf8 l.rest) × (string_bytes l.text ++ with_spaces l.rest ≡ with_spaces l.title.key)

abbrev pub decreases-loop-word : goal.decreases-loop-word
decreases-loop-word l = length l.rest
