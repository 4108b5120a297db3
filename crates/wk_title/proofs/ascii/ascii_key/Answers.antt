use Rattle.std.proofs.Common.{◌≡◌, ◌≤◌, ◌∙◌, ap, length, take, arith, w8}
use Rattle.std.proofs.lemmas.Int.{ints}
use Rattle.std.proofs.lemmas.List.{length-take-le}
use mir.Val.{to_z, of_z}
use Rattle.wk_text_rules.specs.Titles.{after_namespace, after_leading_colon}
use Rattle.wk_title.proofs.AsciiTitles.{ascii_key-from, key-raised}
use Rattle.wk_title.proofs.ascii.ascii_key.Goals as goal

pub returns-clause-key : goal.returns-clause-key
returns-clause-key c =
    let into = c.squeezed-words.new.into in
    let len = c.squeezed-words.result.len in
    let start = c.placed-ns.result.1 in
    let fits : len ≤ length into = omega (arith, c.squeezed-words.array_long, c.squeezed-words.ensures.within) in
    let in_order : start ≤ len = omega (arith, length-take-le len into fits, c.placed-ns.ensures.within) in
    let default_same : to_z w8 (of_z w8 c.args.default_ns) ≡ c.args.default_ns = omega (arith, ints) in
    let ns_same : to_z w8 (of_z w8 c.placed-ns.result.0) ≡ c.placed-ns.result.0 = omega (arith, ints) in
    let placed = c.placed-ns.ensures.placed ∙ ap (λ ns. after_namespace (after_leading_colon (ns, take len into))) default_same in
    let raised = key-raised into _ c.capitalize.new.key start len in_order fits c.capitalize.ensures in
    rw ns_same (ascii_key-from c.args.text.now (take len into) _ c.args.default_ns c.placed-ns.result.0 start c.squeezed-words.result.has_colon c.squeezed-words.result.is_dubious
    c.requires.ascii c.squeezed-words.ensures.words placed raised)
