use Rattle.std.proofs.Common.{ℕ, ap, sym, subst, ◌∙◌}
use Rattle.wk_turn.specs.Journal.{IsOpen}
use Rattle.wk_turn.specs.Told.{Story}
use Rattle.wk_turn.proofs.Owning.{still_open}
use Rattle.wk_turn.proofs.lock.Turn.finish.Goals as goal

pub end-requires-clause-turn : goal.end-requires-clause-turn
end-requires-clause-turn g c = let took = c.take_turn-state.ensures.turn in ((took.0, _, ap (λ m. m.0.stage) took.1), ap (λ m. m.1) took.1)

pub returns-clause-start : goal.returns-clause-start
returns-clause-start g c = sym (c.take_turn-state.ensures.finds.start_is _ (ap (λ p. p.start) c.pass.view_is ∙ c.requires.turn.1))

pub returns-clause-still_open : goal.returns-clause-still_open
returns-clause-still_open g c =
    let closes = g.S.Storied.closes in let found = c.take_turn-state.ensures.finds in let journal = g.S.Storied.journal c.take_turn-state.result in
    subst (λ (z : Story g.row.S-Start.Denot g.row.S-Entry.Denot). (p : ℕ) → IsOpen closes z.seen z.own p → IsOpen closes journal z.own p) c.pass.view_is (still_open closes _ journal _ c.pass.invariant.own found.own found.seen)
