use Rattle.std.proofs.Common.{◌≡◌, ◌++◌, fold, ap, ◌∙◌}
use Rattle.std.specs.Prelude.{codes}
use Rattle.wk_tool_rules.specs.Generator.{Drawn, fields, page_name, with_field, with_number, with_text}
use Rattle.wk_tools.proofs.drawing.page_drawing.Goals as goal

pub returns : goal.returns
returns c =
    let begun : c.new-drawing.result ≡ record { text = codes "{{Infobox|name=" ++ page_name c.args.page; seed = c.args.seed } = c.new-drawing.ensures ∙ (λ i. record { text = c.in_ok-begin.ensures.ok i; seed = c.args.seed }) in
    let boxed = c.in_ok-push_fields.ensures ∙ ap (λ (d : Drawn). fold with_field d fields) begun in
    let link = c.in_ok-push.ensures ∙ ap (with_text (codes "}} [[Page ")) boxed in
    let linked = c.in_ok-push_number.ensures ∙ ap (with_number 1 c.args.pages) link in
    let note = c.in_ok-push-2.ensures ∙ ap (with_text (codes "]] {{Note|")) linked in
    let noted = c.in_ok-push_number-2.ensures ∙ ap (with_number 0 10) note in
    let category = c.in_ok-push-3.ensures ∙ ap (with_text (codes "}}[[Category:C")) noted in
    let put = c.in_ok-push_number-3.ensures ∙ ap (with_number 0 5) category in
    c.in_ok-push-4.ensures ∙ ap (with_text (codes "]]")) put
