use Rattle.std.proofs.Common.{◌≡◌, Some, refl, inl, inr, pos}
use Rattle.std.specs.Prelude.{codes}
use Rattle.std.proofs.lemmas.Bool.{cases_Bool}
use Rattle.std.proofs.lemmas.List.Elements.{All-from_recursion}
use Rattle.wk_text_rules.specs.Titles.{PageTitle, title_eq}
use Rattle.wk_view_rules.specs.Views.{reads}
use Rattle.wk_view_rules.specs.Worlds.{ask, of_world, Read, World}
use Rattle.wk_view_laws.proofs.PlanLemmas.{title_eq-true}
use Rattle.wk_examples.specs.Computing.{computing}
use Rattle.wk_examples.specs.Pages.{changed, page_p, titled, world_before}
use Rattle.wk_examples.proofs.laws.a_page_that_is_not_read.Goals as goal

abbrev other_page : PageTitle
other_page = titled (pos 0) (codes "B")

abbrev world_behind : World
world_behind = changed other_page (codes "c") world_before

pub returns-clause-agrees : goal.returns-clause-agrees
unfolding computing
returns-clause-agrees c =
    All-from_recursion (λ (r : Read). ask (of_world world_behind) r.title r.kind ≡ Some r.answer)
    (reads (of_world world_before) page_p) (refl, (refl, (refl, tt)))

pub returns-clause-differs : goal.returns-clause-differs
returns-clause-differs c other apart = elim (cases_Bool (title_eq other other_page)) [
  | inl same ↦ absurd (apart (title_eq-true other other_page same))
  | inr different ↦ rw different refl
]

pub returns-clause-unnamed : goal.returns-clause-unnamed
unfolding computing
returns-clause-unnamed c = refl
