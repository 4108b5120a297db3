use Rattle.std.proofs.Common.{◌∙◌, map, ap, Some}
use Rattle.wk_keeper.specs.NamedTables.{tables_named}
use Rattle.wk_keeper.specs.Stores.{store_of}
use Rattle.wk_keeper.proofs.list_vault.ListVaultVault.open.Goals as goal

pub returns-clause-given : goal.returns-clause-given
returns-clause-given c =
    let name = c.args.name.now in
    ap Some (c.new.ensures ∙ c.in_ok-tables.ensures ∙ ap (λ stores. tables_named (map store_of stores) name) c.deref.ensures.value
    ∙ ap (λ v. tables_named v name) c.self.view_is)
