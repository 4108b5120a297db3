use Rattle.std.proofs.Common.{ap, sym, ◌∙◌}
use Rattle.wk_keeper.proofs.Named.{IfOk-weaker, tables_named-found, tables_named-none}
use Rattle.wk_keeper.proofs.list_vault.tables_named.Goals as goal

pub returns-in-Some : goal.returns-in-Some
returns-in-Some c =
    let found = tables_named-found c.args.stores.now c.args.name.now c.in-Some.store.now c.in-Some.ensures in
    IfOk-weaker c.copy.result (λ tables is. is ∙ sym found) c.copy.ensures

pub returns-in-None : goal.returns-in-None
returns-in-None c = ap (λ t. t.tables) c.new.ensures ∙ sym (tables_named-none c.args.stores.now c.args.name.now c.in-None.ensures)
