use Rattle.std.proofs.Common.{◌≡◌, ap, ◌∙◌, w8, arith}
use Rattle.std.proofs.lemmas.Int.{ints}
use mir.Val.{to_z, of_z}
use Rattle.wk_text_rules.specs.Titles.{named_namespaces}
use Rattle.wk_title.specs.Names.{name_in}
use Rattle.wk_title.proofs.namespace.namespace_name.Goals as goal

pub returns : goal.returns
returns c =
    let named : c.name_in.result.now ≡ name_in named_namespaces (to_z w8 (of_z w8 c.args.ns)) = c.name_in.ensures in
    let same : to_z w8 (of_z w8 c.args.ns) ≡ c.args.ns = omega (arith, ints) in
    named ∙ ap (name_in named_namespaces) same
