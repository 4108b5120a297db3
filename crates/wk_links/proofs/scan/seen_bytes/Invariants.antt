use Rattle.std.proofs.Common.{◌≡◌, ◌++◌}
use Rattle.wk_out.specs.Runs.{joined}
use Rattle.wk_links.specs.Seen.{seen}
use Rattle.wk_links.proofs.scan.seen_bytes.Given as goal

abbrev pub invariant-loop-text : goal.invariant-loop-text
invariant-loop-text l = l.bytes.items ++ seen (joined l.text-iterator) ≡ seen l.out
