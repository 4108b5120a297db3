use Rattle.std.proofs.Common.{◌≡◌, ◌+◌, ◌-◌, ◌++◌, map, sym, subst, ◌∙◌, arith, List, ℕ}
use Rattle.wk_listings.specs.Owners.{falling, numbered_at}
use Rattle.wk_listings.proofs.Falling.{goes-on, stops}
use Rattle.wk_listings.proofs.numbers.numbers_below.Goals as goal

pub returns-in-None : goal.returns-in-None
returns-in-None c =
    stops c.args.revs.now.history c.args.owner c.steps.end (c.args.most - c.steps.step) c.steps.numbers.items (falling c.args.revs.now.history c.args.owner c.args.below c.args.most)
    (sym c.newest_of.ensures ∙ c.in-None.is) c.steps.invariant

pub steps-preserved : goal.steps-preserved
steps-preserved c =
    subst (λ (ns : List ℕ). map (numbered_at c.args.revs.now.history) ns ++ falling c.args.revs.now.history c.args.owner c.in-Some.number (c.args.most - (c.steps.step + 1)) ≡ falling c.args.revs.now.history c.args.owner c.args.below c.args.most)
    (sym c.in_ok-push-in-Some.ensures.items)
    (goes-on c.args.revs.now.history c.args.owner c.steps.end c.in-Some.number (c.args.most - (c.steps.step + 1)) (c.args.most - c.steps.step) c.steps.numbers.items (falling c.args.revs.now.history c.args.owner c.args.below c.args.most)
    (sym c.newest_of.ensures ∙ c.in-Some.is) (omega arith) c.steps.invariant)
