use Rattle.std.proofs.Common.{◌≡◌, true, false, Option, None, ap, ◌∙◌, subst}
use Rattle.std.specs.Prelude.{IsSome}
use Rattle.wk_table_rules.specs.GoodStore.{first_broken}
use Rattle.wk_core.specs.Seen.{WikiSeen}
use Rattle.wk_keeper.specs.declared.mem_keeper.MemKeeper.{MemKeeper}
use Rattle.wk_replica.specs.Loaded.{IsOver}
use Rattle.wk_replica.proofs.RowFacts.{none-broken}
use Rattle.wk_replica.proofs.loading.empty_wiki.Goals as goal

-- no rule of a new store is broken
pub unreachable-requires : goal.unreachable-requires
unreachable-requires c =
    let broken : IsSome (first_broken c.new.result) = subst (λ (o : Option (WikiSeen MemKeeper)). IsOver c.new.result o) c.in-None.is c.in_ok-wiki.ensures in
    let none : first_broken c.new.result ≡ None = ap first_broken c.new.ensures ∙ none-broken in
    let off : false ≡ true = subst IsSome none broken in absurd cc
