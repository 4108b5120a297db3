use Rattle.wk_http.proofs.PlaceLemmas.{in_target}
use Rattle.wk_http.proofs.places.after_target.Goals as goal

pub returns : goal.returns
returns c = λ bytes ends. in_target bytes c.args.byte c.if-byte-eq32.false ends
