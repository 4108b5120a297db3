use Rattle.std.proofs.Common.{◌≡◌, ap, ◌∙◌, arith, w8}
use Rattle.std.proofs.lemmas.Int.{ints}
use mir.Val.{to_z, of_z}
use Rattle.wk_text_rules.specs.Titles.{squeezed, after_namespace, after_leading_colon}
use Rattle.wk_title.proofs.NormalLemmas.{placed_key_from}
use Rattle.wk_title.proofs.rules.placed_key.Goals as goal

pub returns : goal.returns
returns c =
    let default_same : to_z w8 (of_z w8 c.args.default_ns) ≡ c.args.default_ns = omega (arith, ints) in
    let asked_same : to_z w8 (of_z w8 c.after_leading_colon-asked.result.0) ≡ c.after_leading_colon-asked.result.0 = omega (arith, ints) in
    let placed_same : to_z w8 (of_z w8 c.after_namespace-ns.result.0) ≡ c.after_namespace-ns.result.0 = omega (arith, ints) in
    rw placed_same (
    placed_key_from c.args.text.now c.args.default_ns c.in_ok-plain.plain.items c.in_ok-words.words.items
    (c.after_leading_colon-asked.result.0, c.after_leading_colon-asked.result.1.now)
    (c.after_namespace-ns.result.0, c.after_namespace-ns.result.1.now) c.in_ok-capitalized.capitalized.items c.in_ok-key.key.items
    c.in_ok-plain.ensures (c.in_ok-words.ensures ∙ ap squeezed c.deref.ensures.value)
    (c.after_leading_colon-asked.ensures ∙ ap (λ ns. after_leading_colon (ns, c.deref-2.result.now)) default_same ∙ ap (λ cs. after_leading_colon (c.args.default_ns, cs)) c.deref-2.ensures.value)
    (c.after_namespace-ns.ensures ∙ ap (λ ns. after_namespace (ns, c.after_leading_colon-asked.result.1.now)) asked_same)
    c.in_ok-capitalized.ensures c.in_ok-key.ensures
    )
