use Rattle.std.proofs.Common.{Some, ap, ◌∙◌}
use Rattle.std.proofs.lemmas.Result.{on_ok_weaker}
use Rattle.wk_tree.specs.Parsed.{ParsedText}
use Rattle.wk_subst.specs.declared.stack.Level.{Level}
use Rattle.wk_subst.specs.declared.work.Work.{Work}
use Rattle.wk_subst.proofs.StepLaws.{page-leads}
use Rattle.wk_subst.proofs.work.Work.enter_page.Goals as goal

pub returns : goal.returns
returns c =
    let w : Work = c.args.self.now in
    let with : ParsedText → Level = λ tree. record { tree = tree; bound = Some c.args.call.bound } in
    on_ok_weaker c.enter.result (λ is.
    page-leads w c.args.node c.requires.sound c.requires.node c.enter.new.self c.args.call c.replace-before.new.dest c.replace-before.result c.replace-level.new.dest c.replace-level.result
    (c.replace-before.ensures.after ∙ c.new.ensures) c.replace-before.ensures.value c.replace-level.ensures.value (c.replace-level.ensures.after ∙ ap with c.in_ok-tree.ensures) is) c.enter.ensures
