use Rattle.std.proofs.Common.{ℕ, ◌<◌, ◌≤◌, ◌∷◌, [], refl, lit<, lit≤}
use Rattle.std.proofs.lemmas.List.Elements.{All-from_recursion}
use Rattle.std.specs.List.{IsDistinct}
use Rattle.wk_wiki_rules.specs.JobComputing.{computing}
use Rattle.wk_examples.proofs.jobs.lists_that_can_stand.Goals as goal

pub returns-clause-found : goal.returns-clause-found
unfolding computing
returns-clause-found c = record { found = (refl, tt); small = (lit< tt, (lit< tt, tt)) }

pub returns-clause-in_order : goal.returns-clause-in_order
returns-clause-in_order c = ((lit< tt, tt), (tt, tt))

pub returns-clause-numbered : goal.returns-clause-numbered
unfolding IsDistinct
returns-clause-numbered c = record {
  own = ((refl, (refl, tt)), ((refl, tt), (tt, tt)));
  bounded = All-from_recursion (λ (number : ℕ). (1 ≤ number) × (number < 7)) (2 ∷ 1 ∷ 4 ∷ []) ((lit≤ tt, lit< tt), ((lit≤ tt, lit< tt), ((lit≤ tt, lit< tt), tt)));
  positive = lit≤ tt;
}
