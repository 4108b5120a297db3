-- What a vault whose calls may fail holds (own).
use Rattle.std.specs.Prelude.{ℕ, Bool, ◌==◌, ◌&&◌, List, length}
use Rattle.wk_base.specs.Calls.{CallsMade}
use Rattle.wk_keeper.specs.declared.fail_vault.FailVault.{FailVault}

-- the vault within
abbrev pub vault_of : {V : Type 0} → FailVault V → V
vault_of vault = vault.inner

-- its calls, and which of them fail
abbrev pub open_calls_of : {V : Type 0} → FailVault V → CallsMade
open_calls_of vault = vault.calls

-- the numbers of the calls of each store that are to fail
abbrev pub store_fail_of : {V : Type 0} → FailVault V → List ℕ
store_fail_of vault = vault.store_fail.items

-- its store of a name is whole where the one within is whole and none of its calls is to fail
abbrev pub whole_with : (List ℕ → Bool) → List ℕ → List ℕ → Bool
whole_with opens_whole store_fail name = opens_whole name && length store_fail == 0
