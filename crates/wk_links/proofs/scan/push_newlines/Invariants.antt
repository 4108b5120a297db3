use Rattle.std.proofs.Common.{◌≡◌, ◌++◌, replicate}
use Rattle.wk_links.proofs.scan.push_newlines.Given as goal

abbrev pub invariant-loop : goal.invariant-loop
invariant-loop l = l.bytes.items ≡ l.initial.bytes.items ++ replicate l.counter 10
