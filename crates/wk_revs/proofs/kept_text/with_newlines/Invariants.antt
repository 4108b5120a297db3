use Rattle.std.proofs.Common.{◌≡◌, ◌++◌, drop}
use Rattle.wk_page_rules.specs.Kept.{with_newlines}
use Rattle.wk_revs.proofs.kept_text.with_newlines.Given as goal

abbrev pub invariant-loop-i : goal.invariant-loop-i
invariant-loop-i l = l.out.items ++ with_newlines (drop l.i l.cs) ≡ with_newlines l.cs
