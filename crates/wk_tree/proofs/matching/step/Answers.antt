use Rattle.std.proofs.Common.{◌≤◌, refl, subst}
use Rattle.wk_tree.specs.Matching.{as_run, IsKept}
use Rattle.wk_tree_laws.specs.OnePass.{opened, closed}
use Rattle.wk_tree_rules.specs.Trees.{bar, equals}
use Rattle.wk_tree.proofs.AtomLemmas.{step-open, step-close, step-bar, step-equals, step-byte, step-sealed, step-nothing, default-nothing}
use Rattle.wk_tree.proofs.matching.step.Goals as goal

pub returns-in_ok-open-in-Open : goal.returns-in_ok-open-in-Open
returns-in_ok-open-in-Open c = λ seen k run one.
    step-open c.args.text.now c.args.atom.now seen c.requires.within c.in-Open.is run
    (subst (λ r. 2 ≤ r.count → r.count ≤ r.end → IsKept (opened (as_run r) seen) c.open.new.matching) c.run_at.ensures (λ l f. c.in_ok-open-in-Open.ensures seen k l f))

pub returns-in_ok-close-in-Close : goal.returns-in_ok-close-in-Close
returns-in_ok-close-in-Close c = λ seen k run one.
    step-close c.args.text.now c.args.atom.now seen c.requires.within c.in-Close.is run
    (subst (λ r. 2 ≤ r.count → r.count ≤ r.end → IsKept (closed r.count (as_run r) seen) c.close.new.matching) c.run_at-in-Close.ensures (λ l f. c.in_ok-close-in-Close.ensures seen k l f))

pub returns-in_ok-push_bar-in-Bar : goal.returns-in_ok-push_bar-in-Bar
returns-in_ok-push_bar-in-Bar c = λ seen k run one.
    step-bar c.args.text.now c.args.atom.now seen c.requires.within c.in-Bar.is (c.in_ok-push_bar-in-Bar.ensures seen (bar c.args.atom.now.start) k refl)

pub returns-in_ok-push_bar-in-Equals : goal.returns-in_ok-push_bar-in-Equals
returns-in_ok-push_bar-in-Equals c = λ seen k run one.
    step-equals c.args.text.now c.args.atom.now seen c.requires.within c.in-Equals.is (c.in_ok-push_bar-in-Equals.ensures seen (equals c.args.atom.now.start) k refl)

pub returns-in_ok-push-in-Byte : goal.returns-in_ok-push-in-Byte
returns-in_ok-push-in-Byte c = λ seen k run one.
    step-byte c.args.text.now c.args.atom.now seen c.requires.within c.in-Byte.is (one c.in-Byte.is) c.in_ok-push-in-Byte.ensures.items k

pub returns-in_ok-push-in-Sealed : goal.returns-in_ok-push-in-Sealed
returns-in_ok-push-in-Sealed c = λ seen k run one.
    step-sealed c.args.text.now c.args.atom.now seen c.requires.within c.in-Sealed.is c.in_ok-push-in-Sealed.ensures.items k

pub returns-in_ok-push-in_default : goal.returns-in_ok-push-in_default
returns-in_ok-push-in_default c = λ seen k run one.
    step-nothing c.args.text.now c.args.atom.now seen c.requires.within
    (default-nothing c.args.atom.now.kind _ c.in_default.not-Open c.in_default.not-Close c.in_default.not-Bar c.in_default.not-Equals c.in_default.not-Byte c.in_default.not-Sealed)
    c.in_ok-push-in_default.ensures.items k
