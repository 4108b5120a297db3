use Rattle.std.proofs.Common.{[]}
use Rattle.wk_http.proofs.PlaceLemmas.{none_are_empty}
use Rattle.wk_http.proofs.places.place_in.Goals as goal

pub returns-in-Some : goal.returns-in-Some
returns-in-Some c = c.in-Some.ensures [] none_are_empty
