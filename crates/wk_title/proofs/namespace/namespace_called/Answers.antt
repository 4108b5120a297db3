use Rattle.std.proofs.Common.{◌≡◌, sym, ◌∙◌, w8, arith}
use Rattle.std.proofs.lemmas.Int.{ints}
use mir.Val.{to_z, of_z}
use Rattle.wk_text_rules.specs.Titles.{named_namespaces, namespace_aliases}
use Rattle.wk_title.specs.Names.{called_in}
use Rattle.wk_title.proofs.Names.{called_in-append_some, called_in-append_none}
use Rattle.wk_title.proofs.namespace.namespace_called.Goals as goal

pub returns-in-Some : goal.returns-in-Some
returns-in-Some c =
    let called : c.called_in.result ≡ called_in named_namespaces c.args.written.now = c.called_in.ensures in
    let same : to_z w8 (of_z w8 c.in-Some.ns) ≡ c.in-Some.ns = omega (arith, ints) in
    rw same (sym (called_in-append_some named_namespaces namespace_aliases c.args.written.now _ (sym called ∙ c.in-Some.is)))

pub returns-in-None : goal.returns-in-None
returns-in-None c =
    let called : c.called_in.result ≡ called_in named_namespaces c.args.written.now = c.called_in.ensures in
    let later : c.called_in-in-None.result ≡ called_in namespace_aliases c.args.written.now = c.called_in-in-None.ensures in
    later ∙ sym (called_in-append_none named_namespaces namespace_aliases c.args.written.now (sym called ∙ c.in-None.is))
