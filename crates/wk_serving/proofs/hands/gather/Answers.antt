use Rattle.std.proofs.Common.{All, sym, ap, subst, ◌∙◌}
use Rattle.std.proofs.lemmas.List.Elements.{All-take}
use Rattle.wk_turn.proofs.Lists.{prefix_trans}
use Rattle.wk_refresh.specs.Drained.{IsFree}
use Rattle.wk_serving.proofs.hands.gather.Goals as goal

pub gathering-preserved : goal.gathering-preserved
gathering-preserved g c =
    let inv = c.gathering.invariant in
    let joined = c.join.ensures.pass in (
      record { turn = (ap (λ p. p.turn) joined ∙ inv.0.turn.0, ap (λ p. p.start) joined ∙ inv.0.turn.1); free = ap (λ p. p.held) joined ∙ inv.0.free },
      prefix_trans _ _ _ inv.1 c.join.ensures.seen.0,
      subst (All (λ w. IsFree c.args.shared.now w.reader.pass)) (sym c.in-Some.ensures.rest) (All-take (λ w. IsFree c.args.shared.now w.reader.pass) _ _ inv.2),
    )
