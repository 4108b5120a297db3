use Rattle.std.proofs.Common.{◌≡◌, List, ◌++◌, length}
use Rattle.httparse.specs.Grammar.{LineEnd, print_blank}
use Rattle.wk_http.proofs.target.after_empty_lines.Given as goal

-- what was passed are empty lines
abbrev pub invariant-loop-rest : goal.invariant-loop-rest
invariant-loop-rest l = (blank : List LineEnd) × (l.bytes ≡ print_blank blank ++ l.left)

abbrev pub decreases-loop-rest : goal.decreases-loop-rest
decreases-loop-rest l = length l.left
