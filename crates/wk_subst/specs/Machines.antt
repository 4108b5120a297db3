-- Substitutions by what was seen, and machines that carry them out.
use Rattle.std.specs.Prelude.{◌≡◌, ℕ, List, Some, None}
use Rattle.wk_text_rules.specs.Titles.{PageTitle}
use Rattle.wk_view_rules.specs.Plans.{done}
use Rattle.wk_view_rules.specs.Worlds.{Seen, Agrees, ask, of_seen}
use Rattle.wk_view_rules.specs.declared.Kind.TheVariants.{Include}
use Rattle.wk_expand.specs.Running.{needed}
use Rattle.wk_subst_rules.specs.Substitution.{substituted}
use Rattle.wk_subst.specs.Substituted.{SubstitutedShown}
use Rattle.wk_subst.specs.Paused.{IsLeft}
use Rattle.wk_subst.specs.declared.machine.Driven.{Driven}
use Rattle.wk_subst.specs.declared.machine.Driven.TheVariants.{Made, Stopped}
use Rattle.wk_subst.specs.declared.machine.SubstRan.{SubstRan}
use Rattle.wk_subst.specs.declared.machine.SubstRan.TheVariants as ran
use Rattle.wk_subst.specs.declared.substituted.SubstStep.{SubstStep}
use Rattle.wk_subst.specs.declared.substituted.SubstStep.TheVariants.{Done, Needs}
use Rattle.wk_subst.specs.MachineShown.{MachineShown}

-- What the text becomes by what was seen.
pub record IsDone (saved : List ℕ) (seen : Seen) (s : SubstitutedShown) : Type 0 where
  pub saved_is : s.saved ≡ saved
  pub is : substituted (of_seen seen) saved ≡ done s.text s.reads

-- The title is the first whose page's text is asked and wasn't seen.
pub record IsNeeded (saved : List ℕ) (seen : Seen) (title : PageTitle) : Type 0 where
  pub needed_is : needed (substituted (of_seen seen) saved) ≡ Some (title, Include)
  pub unseen : ask (of_seen seen) title Include ≡ None

abbrev pub IsDriven : List ℕ → Seen → Driven → Type 0
IsDriven saved seen (Made s) = IsDone saved seen s
IsDriven saved seen (Stopped title begun) =
    IsNeeded saved seen title × Agrees (of_seen seen) begun.reads × IsLeft saved begun.work begun.now begun.reads

-- Done with what the text becomes by what was seen; or the first title that isn't among it, with the machine that goes on once
-- it is: what was seen answers what that has read.
abbrev pub IsRan : MachineShown → Seen → SubstRan → Type 0
IsRan m seen (ran.Done s) = IsDone m.saved seen s
IsRan m seen (ran.Needs title next) = IsNeeded m.saved seen title × (next.saved ≡ m.saved) × Agrees (of_seen seen) next.reads

abbrev pub IsStep : List ℕ → Seen → SubstStep → Type 0
IsStep saved seen (Done s) = IsDone saved seen s
IsStep saved seen (Needs title) = IsNeeded saved seen title
