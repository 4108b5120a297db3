use Rattle.std.proofs.Common.{ℕ, List, ap, sym, subst}
use Rattle.wk_turn.specs.Journal.{IsOpen}
use Rattle.wk_turn.specs.Told.{Story}
use Rattle.wk_turn.proofs.Owning.{still_open}
use Rattle.wk_turn.proofs.lock.Turn.join.Goals as goal

pub returns-clause-mine_open : goal.returns-clause-mine_open
returns-clause-mine_open g c =
    let closes = g.S.Storied.closes in let told = c.merge_seats.ensures.told in let seen = sym (ap (λ m. m.0.seen) c.merge_seats.ensures.seat.2) in
    subst (λ (z : Story g.row.S-Start.Denot g.row.S-Entry.Denot × List g.row.S-Entry.Denot). (p : ℕ) → IsOpen closes z.0.seen z.0.own p → IsOpen closes z.1 z.0.own p) (λ i. (c.pass.view_is i, seen i)) (still_open closes _ _ _ c.pass.invariant.own told.2 told.0)

pub returns-clause-other_open : goal.returns-clause-other_open
returns-clause-other_open g c =
    let closes = g.S.Storied.closes in let told = c.merge_seats.ensures.told in let seen = sym (ap (λ m. m.0.seen) c.merge_seats.ensures.seat.2) in
    subst (λ (z : Story g.row.S-Start.Denot g.row.S-Entry.Denot × List g.row.S-Entry.Denot). (p : ℕ) → IsOpen closes z.0.seen z.0.own p → IsOpen closes z.1 z.0.own p) (λ i. (c.other.view_is i, seen i)) (still_open closes _ _ _ c.other.invariant.own told.3 told.1)
