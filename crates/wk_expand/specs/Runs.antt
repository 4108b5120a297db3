-- What a run of a machine comes to.
use Rattle.std.specs.Prelude.{◌≡◌, ℕ, List, Option, Some, None, Ok}
use Rattle.wk_text_rules.specs.Titles.{PageTitle}
use Rattle.wk_view_rules.specs.Worlds.{Agrees, Seen, ask, of_seen}
use Rattle.wk_view_rules.specs.declared.Kind.{Kind}
use Rattle.wk_expand.specs.Drafts.{drafted}
use Rattle.wk_expand.specs.Machines.{IsPaused, MachineShown, reads_of}
use Rattle.wk_expand.specs.Running.{needed}
use Rattle.wk_expand.specs.Steps.{IsDrafted}
use Rattle.wk_expand.specs.declared.machine.Driven.{Driven}
use Rattle.wk_expand.specs.declared.machine.Driven.TheVariants.{Drafted, Stopped}
use Rattle.wk_expand.specs.declared.machine.Ran.{Ran}
use Rattle.wk_expand.specs.declared.machine.Ran.TheVariants.{Done, Needs}

-- The pair is the first that the draft needs and that wasn't seen.
pub record IsNeeded (seen : Seen) (page : PageTitle) (given : Option (List ℕ)) (title : PageTitle) (kind : Kind) : Type 0 where
  pub needed_is : needed (drafted (of_seen seen) page given) ≡ Some (title, kind)
  pub unseen : ask (of_seen seen) title kind ≡ None

abbrev pub IsDriven : PageTitle → Option (List ℕ) → Seen → Driven → Type 0
IsDriven page given seen (Drafted d) = IsDrafted seen page given (Ok d)
IsDriven page given seen (Stopped title kind begun) =
    (needed (drafted (of_seen seen) page given) ≡ Some (title, kind)) × Agrees (of_seen seen) (reads_of begun) × IsPaused page given begun

-- Done with what the page, or the text, expands to by what was seen; or the pair that isn't among it, with the machine
-- that goes on once it is: what was seen answers what that has read.
abbrev pub IsRan : MachineShown → Seen → Ran → Type 0
IsRan m seen (Done d) = IsDrafted seen m.page m.given (Ok d)
IsRan m seen (Needs title kind next) =
    IsNeeded seen m.page m.given title kind × (next.page ≡ m.page) × (next.given ≡ m.given) × Agrees (of_seen seen) next.reads
