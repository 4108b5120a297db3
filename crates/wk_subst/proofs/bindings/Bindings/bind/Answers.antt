use Rattle.std.proofs.Common.{List, length, ap, ◌∙◌}
use Rattle.std.specs.FinMap.{insert}
use Rattle.wk_subst.specs.declared.bindings.Binding.{Binding}
use Rattle.wk_subst.proofs.BindingLaws.{last-more}
use Rattle.wk_subst.proofs.bindings.Bindings.bind.Goals as goal

pub invariant_of-self-in-Ok : goal.invariant_of-self-in-Ok
invariant_of-self-in-Ok c =
    let all = c.self.inside.all.items in
    let b : Binding = record { name = c.in_ok-text.text; value = c.args.value } in
    last-more all c.push.new.self.items b c.args.name.now c.self.inside.last c.bind.new.self c.in_ok-push.ensures.items c.in_ok-text.ensures.ok
    (c.in-Ok.ensures.ok ∙ ap (λ (xs : List Binding). insert c.self.inside.last c.args.name.now (length xs)) c.as_slice-at.ensures.value) c.self.invariant
