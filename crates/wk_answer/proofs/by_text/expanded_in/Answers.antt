use Rattle.std.proofs.Common.{◌≡◌, IfOk, subst, ◌∙◌, ap}
use Rattle.serde_json.specs.View.{view}
use Rattle.wk_text_rules.specs.Marked.{text_of}
use Rattle.wk_answer.proofs.Shown.{text-told}
use Rattle.wk_answer.proofs.by_text.expanded_in.Goals as goal

pub returns : goal.returns
returns c =
    subst (λ w. IfOk c.expanded.result (λ v. view v ≡ w))
    (text-told c.args.live.now.state c.args.title.now c.args.text.now c.in_ok-new.field-0 c.text.result.now c.args.point c.in_ok-draft.draft c.if-text-gt-MAX_TEXT.false c.in_ok-new.ensures
    c.in_ok-draft.ensures (c.text.ensures ∙ ap text_of c.out.ensures))
    c.expanded.ensures
