use Rattle.std.proofs.Common.{ℕ, List, ◌++◌, take}
use Rattle.wk_http.specs.Places.{EndsAt}
use Rattle.wk_http.proofs.places.after.Given as goal

abbrev pub invariant-bytes : goal.invariant-bytes
invariant-bytes l = (bytes : List ℕ) → EndsAt bytes l.fn.place → EndsAt (bytes ++ take l.byte-index l.fn.more) l.place
