use Rattle.wk_index.specs.declared.named.Kind.TheVariants.{Included, Mentioned}
use Rattle.wk_index.specs.Named.{Spares}
use Rattle.wk_index.proofs.found.drop_included.Given as goal

abbrev pub invariant-loop-title : goal.invariant-loop-title
invariant-loop-title l =
    Spares Included l.rows l.page l.initial.included l.included × Spares Mentioned l.rows l.page l.initial.mentioned l.mentioned
