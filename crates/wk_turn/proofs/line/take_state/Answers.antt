use Rattle.std.proofs.Common.{rules, ap, ◌∙◌, sym, ◌∷◌, Some}
use Rattle.atomic_table.specs.Table.{rest}
use Rattle.wk_turn.proofs.line.take_state.Goals as goal

pub exchange-requires : goal.exchange-requires
exchange-requires g c =
    let there = c.requires.there in
    (search rules, (Some there.0, there.1 ∙ ap (λ cs. (0, Some there.0) ∷ rest cs) (sym there.1)))
