use Rattle.std.proofs.Common.{ap, sym, subst}
use Rattle.wk_turn.specs.Journal.{ClosesOwn}
use Rattle.wk_turn.proofs.lock.Turn.leave.Goals as goal

pub give_turn-requires-clause-closes : goal.give_turn-requires-clause-closes
give_turn-requires-clause-closes g c =
    subst (ClosesOwn g.S.Storied.closes (g.S.Storied.journal c.args.held.before.value) (g.S.Storied.journal c.args.held.value)) (sym (ap (λ p. p.own) c.pass.view_is)) c.requires.closes
