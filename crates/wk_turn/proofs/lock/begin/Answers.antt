use Rattle.std.proofs.Common.{◌≡◌, ℕ, ◌∷◌, [], Some, Option, List, sym, subst, rules, refl}
use Rattle.atomic_table.specs.Table.{opening}
use Rattle.wk_turn.specs.Line.{Kept, newcomer}
use Rattle.wk_turn.proofs.Steps.{opens}
use Rattle.wk_turn.proofs.lock.begin.Goals as goal

pub new-requires : goal.new-requires
new-requires g c =
    let first = c.of-first.result.value in
    let slots : c.push.new.self.items ≡ Some c.args.state ∷ [] = search rules in
    let words = c.words_at.ensures in
    subst (λ (z : List ℕ × List (Option g.row.S.Denot)). Kept g.S.Storied.start g.S.Storied.journal g.S.Storied.closes (g.S.Storied.start first) (opening z.0 z.1 (newcomer (Some (g.S.Storied.start first)) (g.S.Storied.journal first)))) (λ i. (sym words.1 i, sym slots i))
    (opens g.S.Storied.start g.S.Storied.journal g.S.Storied.closes (g.S.Storied.start first) c.args.state c.length-point.result words.0 first (search rules) (search rules) refl)
