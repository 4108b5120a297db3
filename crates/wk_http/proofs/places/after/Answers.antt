use Rattle.std.proofs.Common.{ℕ, List, ◌++◌, take, ap, sym, ◌∙◌, subst, append_assoc, arith}
use Rattle.std.proofs.lemmas.List.{take_all, take_more}
use Rattle.wk_http.specs.Places.{EndsAt}
use Rattle.wk_http.proofs.places.after.Goals as goal

pub bytes-preserved : goal.bytes-preserved
bytes-preserved c = λ bytes ends.
    let more : List ℕ = c.args.more.now in
    let i : ℕ = c.bytes.byte-index in
    subst (λ (t : List ℕ). EndsAt t c.in-Some.next)
    (append_assoc bytes (take i more) _ ∙ ap (λ (t : List ℕ). bytes ++ t) (sym (take_more more i 0 (omega (arith, c.bytes-test.true, c.bytes.auto.byte-index-end)))))
    (c.in-Some.ensures (bytes ++ take i more) (c.bytes.invariant bytes ends))

pub returns : goal.returns
returns c = λ bytes ends.
    let more : List ℕ = c.args.more.now in
    subst (λ (t : List ℕ). EndsAt (bytes ++ t) c.bytes.place)
    (take_all c.bytes.byte-index more (omega (arith, c.bytes-test.false, c.bytes.auto.byte-index-end)))
    (c.bytes.invariant bytes ends)
