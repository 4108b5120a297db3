-- Replies to parameters that ask nothing (own).
use Rattle.std.specs.Prelude.{◌≡◌, ℕ}
use Rattle.serde_json.specs.Data.{Data}
use Rattle.wk_request_rules.specs.Requests.{ParsedRequest, RequestRefusal, invalid}
use Rattle.wk_answer_rules.specs.ApiErrors.{api_error, request_error}

-- the parameters are refused, and this is the error that says so
pub record IsRefusal (parsed : ParsedRequest) (point : ℕ) (value : Data) : Type 0 where
  pub cause : RequestRefusal
  pub refused : parsed ≡ invalid cause
  pub told : value ≡ (api_error (request_error cause) point).value
