use Rattle.std.proofs.Common.{List, length, ap, ◌∙◌}
use Rattle.wk_subst.specs.Stack.{within_of}
use Rattle.wk_subst.specs.declared.stack.Opened.{Opened}
use Rattle.wk_subst.proofs.StackLaws.{is-calls}
use Rattle.wk_subst.proofs.stack.Stack.calls.Goals as goal

pub returns : goal.returns
returns c =
    c.calls_in.ensures
    ∙ ap (λ (kept : List Opened). length (within_of kept)) c.as_slice.ensures.value
    ∙ is-calls c.self.inside.opened.items
    ∙ ap (λ (opened : List Opened). length (within_of opened)) c.self.view_is
