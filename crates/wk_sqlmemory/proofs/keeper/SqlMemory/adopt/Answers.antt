use Rattle.std.proofs.Common.{◌∙◌, ap, refl}
use Rattle.sqlite_trees.specs.declared.memory.MemStore.{MemStore}
use Rattle.sqlite.proofs.Callers.{memory_is_clean}
use Rattle.sqlite.specs.Held.{state}
use Rattle.sqlite.specs.Steps.{over_memory}
use Rattle.wk_sqlkeeper.specs.declared.keeper.SqlKeeper.{SqlKeeper}
use Rattle.wk_sqlkeeper.specs.SqlKeeper.{connection_of}
use Rattle.wk_sqlmemory.specs.Told.{tables_in}
use Rattle.wk_sqlmemory.proofs.Told.{new_told, older_told, stays_told, still_told, taken_over}
use Rattle.wk_sqlmemory.proofs.keeper.SqlMemory.adopt.Goals as goal

pub telling-requires : goal.telling-requires
telling-requires c =
    let clean = memory_is_clean (connection_of c.in-Ok.keeper) in
    taken_over (state over_memory c.args.connection) (state over_memory (connection_of c.in-Ok.keeper)) (c.in-Ok.ensures.blank clean) (c.in-Ok.ensures.older clean) (c.in-Ok.ensures.kept clean) c.requires

pub returns-in-Ok-clause-told : goal.returns-in-Ok-clause-told
returns-in-Ok-clause-told c empty =
    let clean = memory_is_clean (connection_of c.in-Ok.keeper) in
    ap (λ (k : SqlKeeper MemStore). tables_in (state over_memory (connection_of k)).now.trees) c.telling.ensures
    ∙ new_told (state over_memory (connection_of c.in-Ok.keeper)) (c.in-Ok.ensures.blank clean empty)

pub returns-in-Ok-clause-kept : goal.returns-in-Ok-clause-kept
returns-in-Ok-clause-kept c had =
    let clean = memory_is_clean (connection_of c.in-Ok.keeper) in
    ap (λ (k : SqlKeeper MemStore). tables_in (state over_memory (connection_of k)).now.trees) c.telling.ensures
    ∙ still_told (state over_memory c.args.connection) (state over_memory (connection_of c.in-Ok.keeper)) (c.in-Ok.ensures.kept clean) had

pub returns-in-Ok-clause-older : goal.returns-in-Ok-clause-older
returns-in-Ok-clause-older c tables keeps range =
    let clean = memory_is_clean (connection_of c.in-Ok.keeper) in
    ap (λ (k : SqlKeeper MemStore). tables_in (state over_memory (connection_of k)).now.trees) c.telling.ensures
    ∙ older_told (state over_memory (connection_of c.in-Ok.keeper)) tables (c.in-Ok.ensures.older clean tables keeps) range

pub returns-in-Err-clause-stays : goal.returns-in-Err-clause-stays
returns-in-Err-clause-stays c =
    stays_told (state over_memory c.args.connection) (state over_memory c.in-Err.refused.0) (c.in-Err.ensures.stays (memory_is_clean c.in-Err.refused.0) refl) c.requires
