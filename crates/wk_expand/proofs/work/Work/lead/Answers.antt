use Rattle.std.proofs.Common.{subst}
use Rattle.std.proofs.lemmas.Result.{IfOk-weaker}
use Rattle.wk_expand.specs.Stack.{IsNext}
use Rattle.wk_expand.specs.Work.{IsGoing}
use Rattle.wk_expand.specs.declared.stack.Next.{Next}
use Rattle.wk_expand.proofs.work.Work.lead.Goals as goal

pub expand_for-requires : goal.expand_for-requires
expand_for-requires c =
    let w = c.args.self.now in
    (c.requires.0, subst (λ (n : Next). IsGoing w c.args.node w.listing (λ p rest. IsNext p w.expander n rest) c.requires.0) c.in-Expands.is c.requires.1)

pub returns-in-Expands : goal.returns-in-Expands
returns-in-Expands c =
    let w = c.args.self.now in
    IfOk-weaker c.expand_for.result _ _ (λ turn k seen e g.
    k seen e (subst (λ (n : Next). IsGoing w c.args.node w.listing (λ p rest. IsNext p w.expander n rest) e) c.in-Expands.is g)) c.expand_for.ensures
