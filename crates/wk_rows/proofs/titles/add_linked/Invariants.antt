use Rattle.std.proofs.Common.{◌≡◌, drop}
use Rattle.wk_rows.specs.Titles.{titles_linked, with_titles}
use Rattle.wk_rows.proofs.titles.add_linked.Given as goal

abbrev pub invariant-loop-link : goal.invariant-loop-link
invariant-loop-link l =
    with_titles l.titles.keys (titles_linked (drop l.link-index l.found)) ≡ with_titles l.initial.titles.keys (titles_linked l.found)
