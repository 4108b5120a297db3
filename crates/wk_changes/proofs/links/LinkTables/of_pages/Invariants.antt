use Rattle.std.proofs.Common.{◌≡◌, take}
use Rattle.wk_changes.specs.PageLinks.{lists_of_pages}
use Rattle.wk_changes.proofs.links.LinkTables.of_pages.Given as goal

abbrev pub invariant-loop-place : goal.invariant-loop-place
invariant-loop-place l = l.tables ≡ lists_of_pages l.revs.history (take l.place l.index.stored)
