use Rattle.std.proofs.Common.{◌≡◌, List, [], ◌∷◌, Some, refl, arith}
use Rattle.std.specs.Bool.{IsTrue}
use Rattle.std.proofs.lemmas.List.Elements.{All-from_recursion}
use Rattle.wk_view_rules.specs.Worlds.{ask, fits_kind, of_seen, of_world, page, Read}
use Rattle.wk_view_rules.specs.declared.Kind.TheVariants.{View}
use Rattle.wk_examples.specs.Computing.{computing}
use Rattle.wk_examples.specs.Pages.{page_p, world_before}
use Rattle.wk_examples.proofs.laws.a_need.Goals as goal

abbrev first_read : List Read
first_read = record { title = page_p; kind = View; answer = page (world_before page_p) } ∷ []

pub returns-clause-needed : goal.returns-clause-needed
unfolding computing
returns-clause-needed c = refl

pub returns-clause-middle : goal.returns-clause-middle
unfolding computing
returns-clause-middle c = refl

pub returns-clause-answered : goal.returns-clause-answered
unfolding computing
returns-clause-answered c =
    All-from_recursion (λ (r : Read). ask (of_seen first_read) r.title r.kind ≡ Some r.answer) first_read (refl, tt)

pub returns-clause-agrees : goal.returns-clause-agrees
unfolding computing
returns-clause-agrees c =
    All-from_recursion (λ (r : Read). ask (of_world world_before) r.title r.kind ≡ Some r.answer) first_read (refl, tt)

pub returns-clause-seen : goal.returns-clause-seen
unfolding computing
returns-clause-seen c = record {
  distinct = λ i j d before within. absurd (omega arith);
  formed = All-from_recursion (λ (r : Read). IsTrue (fits_kind r.kind r.answer)) first_read (refl, tt);
}
