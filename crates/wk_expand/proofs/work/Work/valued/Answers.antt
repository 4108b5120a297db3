use Rattle.std.proofs.Common.{[], Option, refl, subst}
use Rattle.std.proofs.lemmas.Result.{IfOk-weaker}
use Rattle.wk_expand.specs.declared.stack.Next.{Next}
use Rattle.wk_expand.specs.declared.work.Work.{Work}
use Rattle.wk_expand.proofs.WorkLaws.{Finds, value-going, value-pushed, value-turn}
use Rattle.wk_expand.proofs.work.Work.valued.Goals as goal

pub lead-requires : goal.lead-requires
lead-requires c =
    let w = c.args.self.now in
    let u : Work = record w { expander = c.push_value.new.self; listing = record w.listing { out = c.push_value.new.out } } in
    value-going w u c.args.node c.args.bound refl [] c.in-Some.next
    (subst (λ (r : Option Next). Finds w u c.args.node c.args.bound refl [] r) c.in-Some.is (λ p name b h is_b. c.in_ok-next.ensures [] p name b h is_b)) refl c.requires.there.0 c.requires.there.1

pub returns-in-Some : goal.returns-in-Some
returns-in-Some c =
    let w = c.args.self.now in
    let u : Work = record w { expander = c.push_value.new.self; listing = record w.listing { out = c.push_value.new.out } } in
    IfOk-weaker c.lead.result _ _ (λ turn k seen e g.
    value-turn w u c.args.node c.args.bound refl seen c.in-Some.next
    (subst (λ (r : Option Next). Finds w u c.args.node c.args.bound refl seen r) c.in-Some.is (λ p name b h is_b. c.in_ok-next.ensures seen p name b h is_b)) refl e turn c.lead.new.self
    (λ f q. k seen f q) g) c.lead.ensures

pub returns-in-None : goal.returns-in-None
returns-in-None c =
    λ seen e g.
    let w = c.args.self.now in
    let u : Work = record w { expander = c.push_value.new.self; listing = record w.listing { out = c.push_value.new.out } } in
    value-pushed w u c.args.node c.args.bound refl seen e
    (subst (λ (r : Option Next). Finds w u c.args.node c.args.bound refl seen r) c.in-None.is (λ p name b h is_b. c.in_ok-next.ensures seen p name b h is_b)) refl refl g
