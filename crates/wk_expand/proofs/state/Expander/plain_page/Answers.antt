use Rattle.std.proofs.Common.{◌≡◌, length, sym, subst, ◌∙◌}
use Rattle.std.proofs.lemmas.Result.{IfOk-weaker}
use Rattle.wk_text_rules.specs.Titles.{PageTitle}
use Rattle.wk_tree.specs.Parsed.{ParsedText}
use Rattle.wk_tree.specs.Tokens.{is_argument}
use Rattle.wk_expand.specs.Items.{IsPlainName}
use Rattle.wk_expand.specs.PageParts.{IsPagePart}
use Rattle.wk_expand.specs.Stack.{IsHere, Place, parts_at, text_at}
use Rattle.wk_expand.proofs.LeadLaws.{count-here, text-here}
use Rattle.wk_expand.proofs.NodeLaws.{kind-is}
use Rattle.wk_expand.proofs.PagePartLaws.{page-plain}
use Rattle.wk_expand.proofs.PlainLaws.{some-each}
use Rattle.wk_expand.proofs.state.Expander.plain_page.Goals as goal

pub returns-in-Page : goal.returns-in-Page
returns-in-Page c =
    let s = c.args.self.now in
    let name = c.in-Some.name.now in
    IfOk-weaker c.called.result _ _ (λ found is.
    some-each found (λ (page : PageTitle). (p : Place) → IsHere s c.args.node p → IsPagePart p c.args.title page) (λ page e p h.
    let is_argument_is : c.argument.result ≡ is_argument p.node.kind = kind-is c.tree.result.now (text_at p) c.args.node c.argument.result is_argument p.node (c.tree.ensures ∙ text-here s c.args.node p h) c.argument.ensures h.is.there in
    let count : length (parts_at p) ≡ c.parts-count.result = sym (count-here s c.args.node p h c.tree-2.result.now c.parts-count.result c.tree-2.ensures c.parts-count.ensures) in
    let plain = subst (λ (parsed : ParsedText). IsPlainName parsed c.args.title name) (text-here s c.args.node p h) c.in-Some.ensures in
    record {
      gives = λ frame items there. page-plain p.inner p.viewed p.frame h.is.plainly (text_at p) c.args.title name p.node.kind (parts_at p) c.parts-count.result page plain (sym is_argument_is ∙ c.if-argument.false) count (sym c.find_plain.ensures ∙ c.in-Page.is) (sym is ∙ e) frame items there;
    })) c.called.ensures.title
