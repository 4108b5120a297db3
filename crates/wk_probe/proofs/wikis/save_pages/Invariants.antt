use Rattle.std.proofs.Common.{◌≡◌, None}
use Rattle.wk_probe.proofs.wikis.save_pages.Given as goal

abbrev pub invariant-pages : goal.invariant-pages
invariant-pages g l =
    (goal.iterator-pages g).can_next l.name-iterator
    × (goal.iterator-pages g).is_finite l.name-iterator
    × (l.wiki.start.sealed ≡ None)
