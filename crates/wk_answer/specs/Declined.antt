-- What is answered to parameters that ask nothing (own).
use Rattle.std.specs.Prelude.{◌≡◌, ℕ, Some, Result, IfOk}
use Rattle.serde_json.specs.View.{view}
use Rattle.serde_json.specs.declared.value.Value.{Value}
use Rattle.wk_memory.specs.declared.Memory.{Memory}
use Rattle.wk_request.specs.Refusals.{told}
use Rattle.wk_request.specs.declared.refusal.RequestRefusal.{RequestRefusal}
use Rattle.wk_request.specs.declared.refusal.RequestRefusal.TheVariants.{Refused as ByNumber, Memory as NoMemory}
use Rattle.wk_request_rules.specs.Requests.{RequestRefusal as Cause, number_of_refusal, parameter_of_refusal}
use Rattle.wk_answer_rules.specs.ApiErrors.{api_error, nomemory, request_error}

-- the error of the refusal, or that for want of memory
abbrev pub IsDeclined : RequestRefusal → ℕ → Result Value Memory → Type 0
IsDeclined (ByNumber number parameter) point result =
    (cause : Cause) → told (ByNumber number parameter) ≡ Some (number_of_refusal cause, parameter_of_refusal cause)
    → IfOk result (λ v. view v ≡ (api_error (request_error cause) point).value)
IsDeclined NoMemory point result = IfOk result (λ v. view v ≡ (api_error nomemory point).value)
