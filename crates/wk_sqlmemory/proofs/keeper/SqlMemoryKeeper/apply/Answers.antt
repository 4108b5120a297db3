use Rattle.std.proofs.Common.{refl}
use Rattle.sqlite.proofs.Callers.{memory_is_clean}
use Rattle.sqlite.specs.Held.{state}
use Rattle.sqlite.specs.Steps.{over_memory}
use Rattle.wk_sqlkeeper.specs.SqlKeeper.{connection_of}
use Rattle.wk_sqlmemory.proofs.Told.{made_kept, made_told, refused_told}
use Rattle.wk_sqlmemory.proofs.keeper.SqlMemoryKeeper.apply.Goals as goal

pub returns-clause-made : goal.returns-clause-made
returns-clause-made c =
    let old = state over_memory (connection_of c.args.self.now.keeper) in
    let new = state over_memory (connection_of c.apply.new.self) in
    made_told old new c.args.change.now c.change_is_in_range.ensures c.requires c.apply.result (c.apply.ensures.kept (memory_is_clean (connection_of c.apply.new.self))) c.args.self.now.keeps

pub returns-clause-refused : goal.returns-clause-refused
returns-clause-refused c =
    let old = state over_memory (connection_of c.args.self.now.keeper) in
    let new = state over_memory (connection_of c.apply.new.self) in
    refused_told old new c.apply.result (c.apply.ensures.undone (memory_is_clean (connection_of c.apply.new.self)) refl) c.args.self.now.keeps

pub invariant_of-self : goal.invariant_of-self
invariant_of-self c =
    let old = state over_memory (connection_of c.args.self.now.keeper) in
    let new = state over_memory (connection_of c.apply.new.self) in
    record { keeps = made_kept old new c.args.change.now c.change_is_in_range.ensures c.requires c.apply.result (c.apply.ensures.kept (memory_is_clean (connection_of c.apply.new.self))) (c.apply.ensures.undone (memory_is_clean (connection_of c.apply.new.self)) refl) c.args.self.now.keeps }
