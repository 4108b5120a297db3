use Rattle.std.proofs.Common.{refl, subst}
use Rattle.wk_expand.specs.Stack.{IsNext}
use Rattle.wk_expand.specs.Work.{IsGoing}
use Rattle.wk_expand.specs.declared.stack.Next.{Next}
use Rattle.wk_expand.specs.declared.stack.Now.TheVariants.{Node as NodeNow}
use Rattle.wk_expand.proofs.WorkLaws.{follow-expands, follow-gives, turn-to}
use Rattle.wk_expand.proofs.work.Work.follow.Goals as goal

pub returns-in_ok-passed-in-Gives : goal.returns-in_ok-passed-in-Gives
returns-in_ok-passed-in-Gives c =
    λ seen e g.
    let w = c.args.self.now in
    follow-gives seen e w c.passed.new.self c.args.node c.in-Gives.one c.in_ok-passed-in-Gives.ensures
    (subst (λ (n : Next). IsGoing w c.args.node w.listing (λ p rest. IsNext p w.expander n rest) e) c.in-Gives.is g)

pub returns-in_ok-wait-in-Expands : goal.returns-in_ok-wait-in-Expands
returns-in_ok-wait-in-Expands c =
    λ seen e g.
    let w = c.args.self.now in
    follow-expands seen e w c.wait.new.self c.args.node c.in-Expands.waiting c.in-Expands.list c.in-Expands.before c.in_ok-wait-in-Expands.ensures
    (subst (λ (n : Next). IsGoing w c.args.node w.listing (λ p rest. IsNext p w.expander n rest) e) c.in-Expands.is g)

pub returns-in-Goes : goal.returns-in-Goes
returns-in-Goes c =
    λ seen e g.
    let w = c.args.self.now in
    turn-to seen e w w (NodeNow c.args.node c.in-Goes.pending) refl
    (subst (λ (n : Next). IsGoing w c.args.node w.listing (λ p rest. IsNext p w.expander n rest) e) c.in-Goes.is g)
