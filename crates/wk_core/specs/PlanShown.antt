-- What contracts see of the plan of a save.
use Rattle.std.specs.Prelude.{ℕ, List, Option}
use Rattle.wk_text_rules.specs.Titles.{PageTitle}
use Rattle.wk_revs.specs.declared.standing.Standing.{Standing}

pub record PlanShown : Type 0 where
  -- the title whose page is saved
  pub title : PageTitle
  -- the text as it is kept, or nothing for a deletion
  pub text : Option (List ℕ)
  -- what stands of the title, and what the save makes
  pub standing : Standing
