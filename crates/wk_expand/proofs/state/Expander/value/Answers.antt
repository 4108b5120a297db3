use Rattle.std.proofs.Common.{Option, ◌++◌, sym, subst, ap, ◌∙◌}
use Rattle.wk_view_rules.specs.Expand.{argument_value}
use Rattle.wk_view_rules.specs.Expansions.{Output, give}
use Rattle.wk_expand.specs.Running.{ComesTo}
use Rattle.wk_expand.specs.Stack.{IsValued}
use Rattle.wk_expand.specs.declared.stack.Next.{Next}
use Rattle.wk_expand.proofs.LeadLaws.{leads-comes}
use Rattle.wk_expand.proofs.state.Expander.value.Goals as goal

pub returns-in-Some : goal.returns-in-Some
returns-in-Some c =
    λ seen p id b h is_b.
    let s = c.args.self.now in
    let whole = argument_value p.inner p.viewed p.frame b in
    (subst (λ (r : Option Next). IsValued seen p whole s c.new-out.result r c.push_value.new.self c.push_value.new.out) c.in-Some.is (c.in_ok-next.ensures seen p id b h is_b)).0

pub returns-in-None : goal.returns-in-None
returns-in-None c =
    λ seen p id b h is_b.
    let s = c.args.self.now in
    let t = c.push_value.new.self in
    let whole = argument_value p.inner p.viewed p.frame b in
    let pushed = subst (λ (r : Option Next). IsValued seen p whole s c.new-out.result r t c.push_value.new.out) c.in-None.is (c.in_ok-next.ensures seen p id b h is_b) in
    leads-comes s id p h seen whole c.push_value.new.out t
    (subst (λ (o : Output). ComesTo seen whole s (give o) t) (sym (pushed.behind ∙ ap (λ (o : Output). o ++ pushed.one) c.new-out.ensures)) pushed.comes)
