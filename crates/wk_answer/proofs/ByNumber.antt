-- A refusal's number and parameter tell its error.
use Rattle.std.proofs.Common.{◌≡◌, refl}
use Rattle.wk_request_rules.specs.Requests.{RequestRefusal, bad_value, must_be_posted, bad_token, no_title, no_text, bad_integer, number_of_refusal, parameter_of_refusal}
use Rattle.wk_answer_rules.specs.ApiErrors.{request_error}
use Rattle.wk_answer.specs.Numbered.{error_numbered}

pub is_numbered : (cause : RequestRefusal) → error_numbered (number_of_refusal cause) (parameter_of_refusal cause) ≡ request_error cause
is_numbered (bad_value parameter) = refl
is_numbered must_be_posted = refl
is_numbered bad_token = refl
is_numbered (no_title parameter) = refl
is_numbered no_text = refl
is_numbered (bad_integer parameter) = refl
