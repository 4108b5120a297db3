use Rattle.wk_bench.proofs.turns.add.Goals as goal

-- no entry closes anything
pub leave-requires-clause-closes : goal.leave-requires-clause-closes
leave-requires-clause-closes g c q p beyond closes = let none = closes.2 in absurd cc
