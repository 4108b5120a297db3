use Rattle.wk_http.proofs.MessageLemmas.{IsOpen-nil}
use Rattle.wk_http.proofs.laws.no_bytes_are_open.Goals as goal

pub returns : goal.returns
returns c = IsOpen-nil
