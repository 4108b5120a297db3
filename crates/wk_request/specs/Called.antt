-- Which module is called, as the rules give it.
use denote.Ref.{Bor}
use Rattle.std.specs.Prelude.{ℕ, List, Result, Ok, Err}
use Rattle.wk_request_rules.specs.Modules.{ModuleCalled, known, unknown}
use Rattle.wk_request_rules.specs.declared.Module.{Module}

-- the module, or the parameter that names none
abbrev pub called : Result Module (Bor (List ℕ)) → ModuleCalled
called (Ok m) = known m
called (Err parameter) = unknown parameter.now
