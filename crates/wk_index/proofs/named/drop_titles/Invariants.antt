use Rattle.wk_index.specs.Named.{Spares}
use Rattle.wk_index.proofs.named.drop_titles.Given as goal

abbrev pub invariant-loop-title : goal.invariant-loop-title
invariant-loop-title l = Spares l.kind l.rows l.page l.initial.named l.named
