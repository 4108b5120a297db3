use Rattle.std.proofs.Common.{rules, ap, ◌∙◌, sym}
use mathlib.Core.Option.{some-injective}
use Rattle.wk_turn.proofs.Steps.{ends, empties}
use Rattle.wk_turn.proofs.line.end.Goals as goal

pub load-requires : goal.load-requires
load-requires g c = let turn = c.requires.turn in (search rules, search rules, ends g.S.Storied.start g.S.Storied.journal g.S.Storied.closes _ _ _ _ _ _ turn.0.2 turn.1)

pub unreachable-requires : goal.unreachable-requires
unreachable-requires g c =
    let did = c.load.ensures.2 in
    let empty = empties g.S.Storied.start g.S.Storied.journal g.S.Storied.closes _ _ _ _ _ _ (ap (λ m. m.0.stage) did.1) c.close_with-closed.ensures.values.2 in
    c.in_default.not-None (some-injective _ _ (sym c.take-nothing.ensures.value ∙ empty))
