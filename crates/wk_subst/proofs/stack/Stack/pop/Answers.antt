use Rattle.std.proofs.Common.{List, reverse, subst}
use Rattle.wk_subst.specs.Stack.{IsPopped}
use Rattle.wk_subst.specs.declared.stack.Opened.{Opened}
use Rattle.wk_subst.proofs.StackLaws.{popped}
use Rattle.wk_subst.proofs.stack.Stack.pop.Goals as goal

pub returns : goal.returns
returns c =
    subst (λ (old : List Opened). IsPopped c.pop.result old (reverse c.pop.new.self.items)) c.self.view_is
    (popped c.self.inside.opened c.pop.new.self c.pop.result c.pop.ensures.items c.pop.ensures.cases)
