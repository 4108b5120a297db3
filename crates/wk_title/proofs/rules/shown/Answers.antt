use Rattle.std.proofs.Common.{◌≡◌, ◌∙◌, arith, w8, ◌++◌}
use Rattle.std.proofs.lemmas.Int.{ints}
use mir.Val.{to_z, of_z}
use Rattle.wk_text_rules.specs.Titles.{shown, with_spaces}
use Rattle.wk_title.specs.Shown.{shown_namespace}
use Rattle.wk_title.proofs.SpacesLemmas.{appended, shown-parts}
use Rattle.wk_title.proofs.rules.shown.Goals as goal

pub returns-clause-ok : goal.returns-clause-ok
returns-clause-ok c =
    let same : to_z w8 (of_z w8 c.ns-2.result) ≡ c.ns-2.result = omega (arith, ints) in
    let ns = same ∙ c.ns-2.ensures in
    let whole : shown c.args.title.now ≡ shown_namespace (to_z w8 (of_z w8 c.ns-2.result)) ++ with_spaces c.key-key.result.now =
    rw (ns, c.key-key.ensures.value) (shown-parts c.args.title.now) in
    appended _ _ c.in_ok-reserve.ensures.bytes c.push_namespace.ensures.bytes c.push_with_spaces.ensures whole
