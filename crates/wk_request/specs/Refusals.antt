-- Refusals as the rules give them.
use Rattle.std.specs.Prelude.{◌≡◌, ℕ, List, Option, Some, None, Result, Ok, Err}
use Rattle.wk_form.specs.Parameters.{Parameters}
use Rattle.wk_request_rules.specs.Reading.{request_given}
use Rattle.wk_request_rules.specs.declared.Module.{Module}
use Rattle.wk_request_rules.specs.Requests.{RequestRefusal as Refused, bad_value, must_be_posted, bad_token, no_title, no_text, bad_integer, number_of_refusal, parameter_of_refusal, ParsedRequest, valid, invalid}
use Rattle.wk_request.specs.declared.refusal.Refusal.{Refusal}
use Rattle.wk_request.specs.declared.refusal.Refusal.TheVariants.{BadValue, MustBePosted, BadToken, NoTitle, NoText, BadInteger}
use Rattle.wk_request.specs.declared.refusal.RequestRefusal.{RequestRefusal}
use Rattle.wk_request.specs.declared.refusal.RequestRefusal.TheVariants.{Refused as ByNumber, Memory}

-- a check that fails
abbrev pub refusal_of : Refusal → Refused
refusal_of (BadValue parameter) = bad_value parameter.now
refusal_of MustBePosted = must_be_posted
refusal_of BadToken = bad_token
refusal_of (NoTitle parameter) = no_title parameter.now
refusal_of NoText = no_text
refusal_of (BadInteger parameter) = bad_integer parameter.now

-- the check that fails, where one does
abbrev pub failed : {T : Type 0} → Result T Refusal → Option Refused
failed (Ok passed) = None
failed (Err refusal) = Some (refusal_of refusal)

-- what is asked of the module that is called, where no check fails
abbrev pub checked_as : Parameters → Result Module Refusal → ParsedRequest
checked_as params (Ok m) = valid (request_given params m)
checked_as params (Err refusal) = invalid (refusal_of refusal)

-- the number and the parameter of a refusal; want of memory has none
abbrev pub told : RequestRefusal → Option (ℕ × List ℕ)
told (ByNumber number parameter) = Some (number, parameter.now)
told Memory = None

-- the number and the parameter that the rules give the refusal, where they refuse
abbrev pub refused : ParsedRequest → Option (ℕ × List ℕ)
refused (valid request) = None
refused (invalid refusal) = Some (number_of_refusal refusal, parameter_of_refusal refusal)

-- These parameters are refused so, by their number and parameter; or memory was wanting, which is free.
abbrev pub Refuses : ParsedRequest → RequestRefusal → Type 0
Refuses parsed (ByNumber number parameter) = refused parsed ≡ Some (number, parameter.now)
Refuses parsed Memory = Unit {0}
