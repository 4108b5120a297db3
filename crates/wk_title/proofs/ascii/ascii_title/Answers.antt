use Rattle.std.proofs.Common.{◌≡◌, Some, sym, ap, ◌∙◌, arith, w8}
use Rattle.std.proofs.lemmas.Int.{ints}
use Rattle.std.proofs.lemmas.Str.{IsUtf8-from_ascii}
use mir.Val.{to_z, of_z}
use Rattle.wk_text_rules.specs.Titles.{normal}
use Rattle.wk_title.proofs.AsciiTitles.{IsAscii-from, ascii-named, ascii-unnamed}
use Rattle.wk_title.proofs.NormalLemmas.{name_from}
use Rattle.wk_title.proofs.ascii.ascii_title.Goals as goal
use Rattle.wk_title.proofs.ascii.ascii_title.Goals.{In_ok-key}

pub returns-then-not-is_legal-clause-illegal : goal.returns-then-not-is_legal-clause-illegal
returns-then-not-is_legal-clause-illegal c =
    let same : to_z w8 (of_z w8 c.args.default_ns) ≡ c.args.default_ns = omega (arith, ints) in
    let found = rw (c.as_bytes.ensures.value, same) at c.ascii_key-found.ensures.key in
    λ _. ascii-unnamed c.args.text.now c.args.default_ns _ _ _ found (sym c.is_legal.ensures ∙ c.if-not-is_legal.true)

pub from_utf8_unchecked-requires : goal.from_utf8_unchecked-requires
from_utf8_unchecked-requires c = IsUtf8-from_ascii _ (IsAscii-from _ c.ascii_key-found.ensures.key.ascii)

named : (c : In_ok-key) → normal c.args.text.now c.args.default_ns ≡ Some (record { ns = c.ascii_key-found.result.ns; key = c.in_ok-key.key })
named c =
    let same : to_z w8 (of_z w8 c.args.default_ns) ≡ c.args.default_ns = omega (arith, ints) in
    let found = rw (c.as_bytes.ensures.value, same) at c.ascii_key-found.ensures.key in
    let title = ascii-named c.args.text.now c.args.default_ns _ _ _ found (sym c.is_legal.ensures ∙ c.if-not-is_legal.false) in
    title ∙ ap (λ key. Some (record { ns = c.ascii_key-found.result.ns; key = key })) (sym (c.in_ok-key.ensures ∙ c.from_utf8_unchecked.ensures))

pub new-requires-2 : goal.new-requires-2
new-requires-2 c =
    let same : to_z w8 (of_z w8 c.ascii_key-found.result.ns) ≡ c.ascii_key-found.result.ns = omega (arith, ints) in
    rw same (name_from c.args.text.now c.args.default_ns _ c.utf8.text c.requires.namespace (named (goal.at.new-requires-2 c).In_ok-key))

pub returns-clause-ok : goal.returns-clause-ok
returns-clause-ok c =
    let same : to_z w8 (of_z w8 c.ascii_key-found.result.ns) ≡ c.ascii_key-found.result.ns = omega (arith, ints) in
    named (goal.at.returns-clause-ok c).In_ok-key ∙ ap Some (sym (rw same at c.new-2.ensures))
