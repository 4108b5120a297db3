use Rattle.std.proofs.Common.{◌≡◌, ◌∙◌, ap, sym, rules, to_z, of_z, w8, w64}
use Rattle.wk_text_rules.specs.Titles.{namespace_name}
use Rattle.wk_good_rows.proofs.Namespaces.{unnamed}
use Rattle.wk_index.proofs.row_titles.namespace_name.Goals as goal

pub returns-in-Ok : goal.returns-in-Ok
returns-in-Ok c =
    let wide : to_z w64 (of_z w64 c.args.namespace) ≡ c.args.namespace = search rules in
    let small : to_z w8 (of_z w8 c.in-Ok.ns) ≡ c.in-Ok.ns = search rules in
    c.namespace_name.ensures ∙ ap namespace_name (small ∙ c.in-Ok.ensures.1 ∙ wide)

pub returns-in-Err : goal.returns-in-Err
returns-in-Err c =
    let wide : to_z w64 (of_z w64 c.args.namespace) ≡ c.args.namespace = search rules in
    sym (unnamed c.args.namespace (λ fits. c.in-Err.ensures (rw wide fits)))
