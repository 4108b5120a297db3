use Rattle.std.proofs.Common.{◌≡◌, Some, sym, ap, ◌∙◌, arith, w8}
use Rattle.std.proofs.lemmas.Int.{ints}
use mir.Val.{to_z, of_z}
use Rattle.wk_text_rules.specs.Titles.{is_legal_key, normal}
use Rattle.wk_title.specs.Placed.{placed_key}
use Rattle.wk_title.proofs.NormalLemmas.{title_from, none_from, legal_length, name_from}
use Rattle.wk_title.proofs.rules.normalize_characters.Goals as goal
use Rattle.wk_title.proofs.rules.normalize_characters.Goals.{In_ok-ns, In_ok-key}

placed : (c : In_ok-ns) → (c.in_ok-ns.ns, c.in_ok-ns.key.items) ≡ placed_key c.args.text.now c.args.default_ns
placed c =
    let same : to_z w8 (of_z w8 c.args.default_ns) ≡ c.args.default_ns = omega (arith, ints) in
    c.in_ok-ns.ensures ∙ ap (placed_key c.args.text.now) same

pub returns-then-not-is_legal_key-clause-illegal :
    goal.returns-then-not-is_legal_key-clause-illegal
returns-then-not-is_legal_key-clause-illegal c =
    λ _. none_from c.args.text.now c.args.default_ns c.in_ok-ns.ns c.in_ok-ns.key.items (placed (goal.at.returns-then-not-is_legal_key-clause-illegal c).In_ok-ns)
    (ap is_legal_key (sym c.deref.ensures.value) ∙ sym c.is_legal_key.ensures ∙ c.if-not-is_legal_key.true)

pub key_text-requires : goal.key_text-requires
key_text-requires c =
    let legal = ap is_legal_key (c.deref-2.ensures.value ∙ sym c.deref.ensures.value) ∙ sym c.is_legal_key.ensures ∙ c.if-not-is_legal_key.false in
    omega (arith, legal_length c.deref-2.result.now legal)

named : (c : In_ok-key) → normal c.args.text.now c.args.default_ns ≡ Some (record { ns = c.in_ok-ns.ns; key = c.in_ok-key.key })
named c =
    let legal = ap is_legal_key (sym c.deref.ensures.value) ∙ sym c.is_legal_key.ensures ∙ c.if-not-is_legal_key.false in
    rw (c.in_ok-key.ensures, c.deref-2.ensures.value) (title_from c.args.text.now c.args.default_ns c.in_ok-ns.ns c.in_ok-ns.key.items (placed (goal.at-In_ok-key c).In_ok-ns) legal)

pub new-requires : goal.new-requires
new-requires c =
    let same : to_z w8 (of_z w8 c.in_ok-ns.ns) ≡ c.in_ok-ns.ns = omega (arith, ints) in
    rw same (name_from c.args.text.now c.args.default_ns _ c.utf8.text c.requires (named c))

pub returns-clause-ok : goal.returns-clause-ok
returns-clause-ok c =
    let same : to_z w8 (of_z w8 c.in_ok-ns.ns) ≡ c.in_ok-ns.ns = omega (arith, ints) in
    named (goal.at.returns-clause-ok c).In_ok-key ∙ ap Some (sym (rw same at c.new.ensures))
