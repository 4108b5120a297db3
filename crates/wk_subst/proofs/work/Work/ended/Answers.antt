use Rattle.std.proofs.Common.{List, ℕ, ap, ◌∙◌}
use Rattle.std.proofs.lemmas.Result.{on_ok_weaker}
use Rattle.wk_subst.specs.Work.{entered}
use Rattle.wk_subst.specs.declared.stack.Waiting.TheVariants.{Part as PartOf}
use Rattle.wk_subst.specs.declared.work.Work.{Work}
use Rattle.wk_subst.proofs.StepLaws.{filled-ends, name-ends, part-ends, value-ends}
use Rattle.wk_subst.proofs.WorkLaws.{back_in}
use Rattle.wk_subst.proofs.work.Work.ended.Goals as goal

pub returns-in-Part : goal.returns-in-Part
returns-in-Part c =
    let w : Work = c.args.self.now in
    on_ok_weaker c.used.result (λ h. part-ends w c.used.new.self c.args.opened c.requires c.in-Part.used c.in-Part.is h) c.used.ensures

pub returns-in_ok-push-in-Name : goal.returns-in_ok-push-in-Name
returns-in_ok-push-in-Name c =
    let w : Work = c.args.self.now in
    on_ok_weaker c.enter.result (λ is.
    name-ends w c.enter.new.self c.args.opened c.requires c.in-Name.value c.in-Name.used c.in-Name.is
    (is ∙ ap (λ (out : List ℕ). entered (record (back_in w c.args.opened) { out = out }) c.args.opened.node (PartOf c.in-Name.used) c.in-Name.value) c.in_ok-push-in-Name.ensures)) c.enter.ensures

pub returns-in-Value : goal.returns-in-Value
returns-in-Value c =
    let w : Work = c.args.self.now in
    on_ok_weaker c.valued.result (λ h. value-ends w c.valued.new.self c.args.opened c.requires c.in-Value.call c.in-Value.before c.in-Value.name c.in-Value.is h) c.valued.ensures

pub returns-in-Filled : goal.returns-in-Filled
returns-in-Filled c =
    let w : Work = c.args.self.now in
    on_ok_weaker c.filled.result (λ h. filled-ends w c.filled.new.self c.args.opened c.requires _ c.in-Filled.before c.in-Filled.level c.in-Filled.is h) c.filled.ensures
