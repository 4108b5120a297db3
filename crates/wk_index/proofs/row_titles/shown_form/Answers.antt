use Rattle.std.proofs.Common.{◌≡◌, ◌++◌, string_bytes, ap, ◌∙◌, to_z, of_z, w64, rules}
use Rattle.wk_text_rules.specs.Titles.{with_spaces}
use Rattle.wk_title.specs.Shown.{shown_namespace}
use Rattle.wk_title.proofs.SpacesLemmas.{appended, shown-parts}
use Rattle.wk_index.proofs.row_titles.shown_form.Goals as goal

pub returns : goal.returns
returns c =
    let same : to_z w64 (of_z w64 c.args.namespace) ≡ c.args.namespace = search rules in
    let first = c.in_ok-push_namespace.ensures ∙ ap (λ ns. string_bytes c.new-text.result ++ shown_namespace ns) same in
    let second = c.in_ok-push_str.ensures.bytes ∙ ap (λ l. string_bytes c.push_namespace.new.into ++ l) (c.as_str.ensures.value ∙ c.in_ok-key.ensures) in
    appended (shown_namespace c.args.namespace) (with_spaces c.args.key.now) c.new-text.ensures.bytes first second
    (shown-parts (record { ns = c.args.namespace; key = c.args.key.now }))
