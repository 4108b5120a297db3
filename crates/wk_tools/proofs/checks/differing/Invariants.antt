use Rattle.std.proofs.Common.{◌≡◌, take}
use Rattle.wk_tools.proofs.Outdated.{found_from}
use Rattle.wk_tools.proofs.checks.differing.Given as goal

abbrev pub invariant-pages : goal.invariant-pages
invariant-pages l = l.found.items ≡ found_from l.live.state 1 (take l.place l.live.state.history.pages)
