use Rattle.std.proofs.Common.{Some, ap, refl}
use Rattle.sqlite.proofs.Callers.{memory_is_clean}
use Rattle.sqlite.specs.Held.{state}
use Rattle.sqlite.specs.Steps.{over_memory}
use Rattle.wk_sqlkeeper.specs.SqlKeeper.{connection_of}
use Rattle.wk_sqlmemory.proofs.Told.{at_either, read_told, still_kept, still_told}
use Rattle.wk_sqlmemory.proofs.keeper.SqlMemoryKeeper.load.Goals as goal

pub returns-clause-given : goal.returns-clause-given
returns-clause-given c = read_told (λ loaded. loaded.tables) (state over_memory (connection_of c.args.self.now.keeper)) c.load.result (c.load.ensures.read (memory_is_clean (connection_of c.load.new.self))) c.args.self.now.keeps

pub returns-clause-tables : goal.returns-clause-tables
returns-clause-tables c =
    let old = state over_memory (connection_of c.args.self.now.keeper) in
    let new = state over_memory (connection_of c.load.new.self) in
    ap Some (still_told old new (at_either c.load.result (c.load.ensures.kept (memory_is_clean (connection_of c.load.new.self))) (c.load.ensures.stays (memory_is_clean (connection_of c.load.new.self)) refl) (λ kept. kept) (λ kept. kept)) c.args.self.now.keeps)

pub invariant_of-self : goal.invariant_of-self
invariant_of-self c =
    let old = state over_memory (connection_of c.args.self.now.keeper) in
    let new = state over_memory (connection_of c.load.new.self) in
    record { keeps = still_kept old new (at_either c.load.result (c.load.ensures.kept (memory_is_clean (connection_of c.load.new.self))) (c.load.ensures.stays (memory_is_clean (connection_of c.load.new.self)) refl) (λ kept. kept) (λ kept. kept)) c.args.self.now.keeps }
