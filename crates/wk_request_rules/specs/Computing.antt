-- `unfolding computing` lets `refl` compute the rules of this crate on parameters that are written out.
use Rattle.std.specs.Str.{is_utf8}
use Rattle.std.specs.Str.Lossy.{utf8_valid_len, utf8_error_len, utf8_lossy}
use Rattle.form_urlencoded.proofs.OnLiterals.{form_urlencoded_on_literals as forms}
use Rattle.wk_text_rules.specs.Computing.{computing as texts}
use Rattle.wk_request_rules.specs.Reading.{request_of}

unfoldable pub computing : Unit {0}
unfolding texts is_utf8 utf8_valid_len utf8_error_len utf8_lossy forms request_of
computing = tt
