use Rattle.std.proofs.Common.{ℕ, ◌-◌, [], List, length, take, subst, ◌∙◌, arith}
use Rattle.std.proofs.lemmas.Bool.Decides.{nat_tests}
use Rattle.httparse.specs.Grammar.{ReadsRequest}
use Rattle.wk_http.proofs.PlaceLemmas.{ends_in, lines_before}
use Rattle.wk_http.proofs.places.are_lines.Goals as goal

pub returns : goal.returns
returns c = λ holds.
    let bytes : List ℕ = c.args.bytes.now in
    let head = c.is_head.ensures holds in
    lines_before bytes (take (length bytes - 1) bytes) head.0 (ends_in bytes 10 (omega arith) (grind (arith, nat_tests)))
    (subst (λ (t : List ℕ). ReadsRequest t head.0 []) (c.deref.ensures.value ∙ c.in_ok-ended.ensures) head.1)
