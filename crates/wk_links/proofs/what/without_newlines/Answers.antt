use Rattle.std.proofs.Common.{◌++◌, Some, None, string_bytes, append_assoc, sym, ap, ◌∙◌, rules, lit<}
use Rattle.std.proofs.lemmas.Str.Pattern.{split_parts}
use Rattle.wk_links.specs.Newlines.{without_newlines}
use Rattle.wk_links.proofs.NewlineLemmas.{without_newlines-none, without_newlines-line}
use Rattle.wk_links.proofs.what.without_newlines.Goals as goal

pub loop-line-preserved : goal.loop-line-preserved
loop-line-preserved c =
    let text = string_bytes c.loop-line.text in
    let line = c.in-Some.line.now in
    let behind = c.in-Some.behind.now in
    let parts = split_parts 10 c.loop-line.rest.now (Some (c.in-Some.line, c.in-Some.behind)) c.in-Some.ensures.cases (lit< tt) in (
      search rules,
      ap (λ bytes. bytes ++ without_newlines behind) c.in_ok-push_str.ensures.bytes
          ∙ append_assoc text line (without_newlines behind)
          ∙ ap (λ bytes. text ++ bytes) (sym (without_newlines-line c.loop-line.rest.now line behind parts.0 parts.1))
          ∙ c.loop-line.invariant.1,
    )

pub returns : goal.returns
returns c =
    let none = split_parts 10 c.loop-line.rest.now None c.in_default.ensures.cases (lit< tt) in
    c.in_ok-push_str-2.ensures.bytes
    ∙ ap (λ bytes. string_bytes c.loop-line.text ++ bytes) (sym (without_newlines-none c.loop-line.rest.now none))
    ∙ c.loop-line.invariant.1
