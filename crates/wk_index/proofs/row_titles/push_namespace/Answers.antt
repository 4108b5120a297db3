use Rattle.std.proofs.Common.{◌≡◌, ◌++◌, string_bytes, encode_utf8, refl, sym, ap, ◌∙◌, arith, to_z, of_z, w64, rules}
use Rattle.std.proofs.lemmas.List.{append-nil}
use Rattle.std.proofs.lemmas.Str.{encode_ascii}
use Rattle.wk_text_rules.specs.Titles.{namespace_name}
use Rattle.wk_title.proofs.SpacesLemmas.{appended, shown_named, shown_main}
use Rattle.wk_index.proofs.row_titles.push_namespace.Goals as goal

pub returns-then-is_empty : goal.returns-then-is_empty
returns-then-is_empty c =
    let same : to_z w64 (of_z w64 c.args.namespace) ≡ c.args.namespace = search rules in
    let name = c.namespace_name-name.ensures ∙ ap namespace_name same in
    let none = shown_main c.args.namespace c.namespace_name-name.result.now name (sym c.is_empty.ensures ∙ c.if-is_empty.true) in
    sym (ap (λ l. string_bytes c.args.into.now ++ l) none ∙ append-nil _)

pub returns : goal.returns
returns c =
    let same : to_z w64 (of_z w64 c.args.namespace) ≡ c.args.namespace = search rules in
    let name = c.namespace_name-name.ensures ∙ ap namespace_name same in
    let named = shown_named c.args.namespace c.namespace_name-name.result.now name (sym c.is_empty.ensures ∙ c.if-is_empty.false) in
    appended c.namespace_name-name.result.now (encode_utf8 58) refl c.in_ok-push_str.ensures.bytes c.in_ok-push.ensures.bytes
    (named ∙ ap (λ l. c.namespace_name-name.result.now ++ l) (sym (encode_ascii 58 (omega arith))))
