use Rattle.std.proofs.Common.{◌≡◌, ◌++◌}
use Rattle.std.specs.Prelude.{map}
use Rattle.form_urlencoded.specs.Parse.{owned_pairs_left}
use Rattle.wk_form.specs.Parameters.{texts, pairs_in, decoded}
use Rattle.wk_form.proofs.params.append_pairs.Given as goal

-- what was appended and what the iterator still has are all pairs
abbrev pub invariant-loop-pair : goal.invariant-loop-pair
invariant-loop-pair l =
    texts l.pairs.items ++ map decoded (owned_pairs_left l.pair-iterator) ≡ texts l.fn.pairs.items ++ pairs_in l.bytes
