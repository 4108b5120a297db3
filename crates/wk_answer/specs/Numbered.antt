-- Errors of parameters, by their place in the order of checking.
use Rattle.std.specs.Prelude.{ℕ, List, ◌==◌, if◌then◌else◌}
use Rattle.wk_answer_rules.specs.ApiErrors.{ApiError, badvalue, mustbeposted, badtoken, notitle, notext, badinteger}

abbrev pub error_numbered : ℕ → List ℕ → ApiError
error_numbered number parameter =
    if number == 1 then badvalue parameter
    else if number == 2 then mustbeposted
    else if number == 3 then badtoken
    else if number == 4 then notitle parameter
    else if number == 5 then notext
    else badinteger parameter
