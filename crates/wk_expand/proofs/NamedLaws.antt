-- A node goes on by the name that its title part gives.
use Rattle.std.proofs.Common.{◌≡◌, refl, subst}
use Rattle.wk_tree.specs.declared.item.NodeId.{NodeId}
use Rattle.wk_view_rules.specs.Expansions.{Output}
use Rattle.wk_view_rules.specs.Worlds.{Seen}
use Rattle.wk_expand.specs.Stack.{AreWithin, IsRest, LeadsTo, Waits}
use Rattle.wk_expand.specs.declared.stack.Next.TheVariants.{Goes}
use Rattle.wk_expand.specs.declared.stack.Pending.TheVariants.{Named}
use Rattle.wk_expand.specs.declared.stack.Waiting.{Waiting}
use Rattle.wk_expand.specs.declared.stack.Waiting.TheVariants.{Title}
use Rattle.wk_expand.specs.declared.state.Expander.{Expander}
use Rattle.wk_expand.proofs.RunLaws.{passes-as}

-- the output of the title part is the name by which the node goes on
pub name-leads : (seen : Seen) (s : Expander) (id : NodeId) (waiting : Waiting) (out : Output) → waiting ≡ Title → (k : Waits s id waiting) → LeadsTo seen k.place (k.step out) s (Goes (Named out)) s
name-leads seen s id waiting out is k = record {
  page = refl;
  rest = k.step out;
  next_is = (
    subst (λ (x : Waiting). AreWithin x s.levels k.place.home) is k.within,
    (subst (λ (x : Waiting). IsRest k.place x k.step) is k.step_is) out,
  );
  passes = passes-as seen (k.step out) (k.step out) s refl;
}
