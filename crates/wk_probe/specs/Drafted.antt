-- Drafts of a page or of a given text.
use Rattle.std.specs.Prelude.{◌≡◌, ℕ, ◌+◌, length}
use Rattle.wk_text_rules.specs.Titles.{PageTitle}
use Rattle.wk_view_rules.specs.Worlds.{Agrees, Seen, of_seen}
use Rattle.wk_expand.specs.Steps.{IsStep, given_text}
use Rattle.wk_expand.specs.declared.drafts.Root.{Root}
use Rattle.wk_expand.specs.declared.drafts.Step.{Step}
use Rattle.wk_expand.specs.declared.drafts.Step.TheVariants.{Done, Needs}

-- a draft, where there is one, is of what is to be expanded
abbrev pub IsOf : Root → Step → Type 0
IsOf root (Done d) = d.given ≡ given_text root
IsOf root (Needs title kind) = Unit {0}

-- The step is what a machine comes to in so many runs: those before the last each needed an answer, which is known and was given.
pub record AreRuns (page : PageTitle) (root : Root) (known : Seen) (step : Step) (runs : ℕ) : Type 0 where
  pub given : Seen
  pub are_known : Agrees (of_seen known) given
  pub count : runs ≡ 1 + length given
  pub by_given : IsStep page root given step
