-- A change that sets the version fits any tables.
use Rattle.std.proofs.Common.{◌≡◌, List, [], ◌∷◌, true, Option, None, Some, ap}
use Rattle.std.specs.Prelude.{IfSome}
use Rattle.wk_table_rules.specs.Rows.{StoreTables}
use Rattle.wk_table_rules.specs.Changes.{TableEdit, fits, set_version}

pub version_fits : (told : Option StoreTables) (change : List TableEdit) → change ≡ set_version 1 ∷ [] → IfSome told (λ kept. fits kept change ≡ true)
version_fits None change is = tt
version_fits (Some kept) change is = ap (fits kept) is
