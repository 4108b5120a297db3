use Rattle.std.proofs.Common.{◌≡◌, drop}
use Rattle.wk_rows.specs.Titles.{titles_asked, with_titles}
use Rattle.wk_rows.proofs.titles.add_read.Given as goal

abbrev pub invariant-loop-read : goal.invariant-loop-read
invariant-loop-read l =
    with_titles l.titles.keys (titles_asked l.kind (drop l.read-index l.reads)) ≡ with_titles l.initial.titles.keys (titles_asked l.kind l.reads)
