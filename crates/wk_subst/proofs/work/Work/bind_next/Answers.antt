use Rattle.std.proofs.Common.{List, [], ℕ, ◌+◌, ◌<◌, ◌≤◌, ap, subst, ◌∙◌}
use Rattle.std.proofs.lemmas.Result.{on_ok_weaker}
use Rattle.wk_subst.specs.Work.{entered, parsed_of}
use Rattle.wk_subst.specs.declared.stack.Waiting.TheVariants.{Value}
use Rattle.wk_subst.specs.declared.work.Work.{Work}
use Rattle.wk_subst.proofs.NodeLaws.{count-is, part-is, part-within}
use Rattle.wk_subst.proofs.StepLaws.{values-end, values-enter}
use Rattle.wk_subst.proofs.WorkLaws.{part_next}
use Rattle.wk_subst.proofs.work.Work.bind_next.Goals as goal

pub returns-then-next-parts : goal.returns-then-next-parts
returns-then-next-parts c =
    let w : Work = c.args.self.now in
    let call = c.args.call in
    let count = count-is c.parts.result c.tree.result.now (parsed_of w) c.args.node c.tree.ensures c.requires.node c.parts.ensures in
    let q = part-within (parsed_of w) c.args.node call.next c.requires.node (subst (λ (n : ℕ). call.next < n) count c.if-next-parts.true) in
    let p = c.part-part.result in
    let part = part-is c.tree-then-next-parts.result.now (parsed_of w) c.args.node call.next p q.0 c.tree-then-next-parts.ensures c.part-part.ensures q.1 in
    on_ok_weaker c.enter.result (λ is.
    values-enter w c.args.node c.requires.sound c.requires.node c.enter.new.self call q.0 p q.1 part
    (is
    ∙ ap (λ (out : List ℕ). entered (record w { out = out }) c.args.node (Value (part_next call (call.next + 1)) c.replace-before.result p.name) p.value) (c.replace-before.ensures.after ∙ c.new.ensures)
    ∙ ap (λ (before : List ℕ). entered (record w { out = [] }) c.args.node (Value (part_next call (call.next + 1)) before p.name) p.value) c.replace-before.ensures.value)) c.enter.ensures

pub returns : goal.returns
returns c =
    let w : Work = c.args.self.now in
    let call = c.args.call in
    let count = count-is c.parts.result c.tree.result.now (parsed_of w) c.args.node c.tree.ensures c.requires.node c.parts.ensures in
    on_ok_weaker c.enter_page.result (λ h.
    values-end w c.args.node c.requires.sound c.requires.node c.enter_page.new.self call (subst (λ (n : ℕ). n ≤ call.next) count c.if-next-parts.false) h) c.enter_page.ensures
