use Rattle.std.proofs.Common.{ap, ◌∙◌}
use Rattle.std.proofs.lemmas.Result.{on_ok_weaker}
use Rattle.wk_tree.specs.Parsed.{ParsedText}
use Rattle.wk_subst.specs.Binding.{call_with}
use Rattle.wk_subst.specs.Nodes.{name_of}
use Rattle.wk_subst.specs.declared.work.Work.{Work}
use Rattle.wk_subst.proofs.StepLaws.{value-leads}
use Rattle.wk_subst.proofs.work.Work.valued.Goals as goal

pub returns : goal.returns
returns c =
    let w : Work = c.args.self.now in
    on_ok_weaker c.bind_next.result (λ h.
    value-leads w c.bind_next.new.self c.args.node c.args.call c.bind.new.self c.args.before c.replace-value.new.dest c.args.name c.replace-value.ensures.after
    (c.in_ok-bind.ensures
    ∙ ap (λ (t : ParsedText). call_with c.args.call (name_of t c.args.name) c.replace-value.result) c.parsed.ensures
    ∙ ap (call_with c.args.call (name_of w.level.tree c.args.name)) c.replace-value.ensures.value) h) c.bind_next.ensures
