-- `unfolding computing` lets `refl` compute the rules of this crate on heads and bytes that are written out.
use Rattle.std.specs.Fmt.{digits}
use Rattle.httparse.specs.Grammar.{is_token_byte, trim_ows, print_request}
use Rattle.wk_text_rules.specs.Computing.{computing as texts}

unfoldable pub computing : Unit {0}
unfolding texts digits is_token_byte trim_ows print_request
computing = tt
