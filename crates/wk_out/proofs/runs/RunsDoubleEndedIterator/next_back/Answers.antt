use Rattle.std.proofs.Common.{◌≡◌, ℕ, ◌<◌, Bool, List, [], ◌∷◌, ◌++◌, length, length-append, ap, sym, ◌∙◌, arith}
use Rattle.wk_out.proofs.ListedLaws.{IsKept-front_listed, IsKept-others, boundary-last_listed, cut-others}
use Rattle.wk_out.proofs.runs.RunsDoubleEndedIterator.next_back.Goals as goal

pub overflow_sub-self-inside : goal.overflow_sub-self-inside
overflow_sub-self-inside c = (IsKept-front_listed _ _ _ _ c.self.invariant c.in-Some.ensures.cases.0).0.fits

pub split_at-requires : goal.split_at-requires
split_at-requires c = boundary-last_listed _ _ _ _ c.self.invariant c.in-Some.ensures.cases.0

pub invariant_of-self-2 : goal.invariant_of-self-2
invariant_of-self-2 c = rw c.split_at.ensures.front (IsKept-others _ _ _ _ c.self.invariant c.in-Some.ensures.cases.0)

pub returns-clause-steps : goal.returns-clause-steps
returns-clause-steps c =
    rw (c.split_at.ensures.front, c.split_at.ensures.back)
    (sym c.self.view_is ∙ cut-others _ _ _ _ c.self.invariant c.in-Some.ensures.cases.0)

shorter : (s t : List (List ℕ × Bool)) (x : List ℕ × Bool) → s ≡ t ++ x ∷ [] → length t < length s
shorter s t x e = omega (arith, ap length e, length-append t (x ∷ []))

pub returns-clause-goes : goal.returns-clause-goes
returns-clause-goes c =
    record { on = λ _. (tt, tt, shorter _ _ _ (returns-clause-steps c)); keeps = tt; rests = λ _. tt }
