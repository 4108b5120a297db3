use Rattle.wk_subst.proofs.BindingLaws.{last-none}
use Rattle.wk_subst.proofs.bindings.Bindings.new.Goals as goal

pub invariant_of-result : goal.invariant_of-result
invariant_of-result c = last-none c.new.result.items c.new-2.result c.new.ensures.items c.new-2.ensures
