-- What a keeper whose calls may fail holds (own).
use Rattle.wk_base.specs.Calls.{CallsMade}
use Rattle.wk_keeper.specs.declared.fail_keeper.FailKeeper.{FailKeeper}

-- the keeper within
abbrev pub inner_of : {K : Type 0} → FailKeeper K → K
inner_of keeper = keeper.inner

-- its calls, and which of them fail
abbrev pub calls_of : {K : Type 0} → FailKeeper K → CallsMade
calls_of keeper = keeper.calls
