-- Rounds of drafting: what a step needs is answered for the next one.
use Rattle.std.specs.Prelude.{◌≡◌, ℕ, zero, suc, ◌++◌, Some}
use Rattle.wk_text_rules.specs.Titles.{PageTitle}
use Rattle.wk_view_rules.specs.Worlds.{Answer, Seen, ask, of_seen}
use Rattle.wk_view_rules.specs.declared.Kind.{Kind}
use Rattle.wk_expand.specs.Steps.{IsStep}
use Rattle.wk_expand.specs.declared.drafts.Root.{Root}
use Rattle.wk_expand.specs.declared.drafts.Step.TheVariants.{Needs}

-- A step by what was seen before needs a pair. What was seen then has the pair's answer, maybe with others, behind that.
pub record IsRound (page : PageTitle) (root : Root) (before seen : Seen) : Type 0 where
  pub title : PageTitle
  pub kind : Kind
  pub needs : IsStep page root before (Needs title kind)
  pub more : Seen
  pub longer : seen ≡ before ++ more
  pub answer : Answer
  pub answered : ask (of_seen seen) title kind ≡ Some answer

-- what was seen after so many rounds, from what was seen at first
unfoldable pub IsSeenAfter : PageTitle → Root → Seen → ℕ → Seen → Type 0
IsSeenAfter page root first zero seen = seen ≡ first
IsSeenAfter page root first (suc n) seen =
    (before : Seen) × IsSeenAfter page root first n before × IsRound page root before seen
