use Rattle.std.proofs.Common.{◌++◌, ◌∷◌, [], Some, None, string_bytes, append_assoc, sym, ap, ◌∙◌, rules, lit<}
use Rattle.std.proofs.lemmas.Result.{IfOk-weaker}
use Rattle.std.proofs.lemmas.Str.Pattern.{split_parts}
use Rattle.wk_text_rules.specs.Titles.{with_spaces}
use Rattle.wk_rows.proofs.SpaceLaws.{with_spaces-word, with_spaces-behind}
use Rattle.wk_rows.proofs.members.spaced_key.Goals as goal

pub loop-word-preserved : goal.loop-word-preserved
unfolding lib.Utf8.encode
loop-word-preserved c =
    let text = string_bytes c.loop-word.text in
    let word = c.in-Some.word.now in
    let behind = c.in-Some.behind.now in
    let parts = split_parts 95 c.loop-word.rest.now (Some (c.in-Some.word, c.in-Some.behind)) c.in-Some.ensures.cases (lit< tt) in (
      search rules,
      ap (λ bytes. bytes ++ with_spaces behind) (c.in_ok-push.ensures.bytes ∙ ap (λ bytes. bytes ++ 32 ∷ []) c.in_ok-push_str.ensures.bytes)
          ∙ append_assoc (text ++ word) (32 ∷ []) (with_spaces behind)
          ∙ append_assoc text word (32 ∷ with_spaces behind)
          ∙ ap (λ bytes. text ++ bytes) (sym (with_spaces-behind c.loop-word.rest.now word behind parts.0 parts.1))
          ∙ c.loop-word.invariant.1,
    )

pub returns-clause-value : goal.returns-clause-value
returns-clause-value c =
    let none = split_parts 95 c.loop-word.rest.now None c.in_default.ensures.cases (lit< tt) in
    let bytes = c.as_str.ensures.value ∙ c.in_ok-push_str-2.ensures.bytes
    ∙ ap (λ bytes. string_bytes c.loop-word.text ++ bytes) (sym (with_spaces-word c.loop-word.rest.now none))
    ∙ c.loop-word.invariant.1 in
    IfOk-weaker c.new.result _ _ (λ text e. e ∙ bytes) c.new.ensures
