-- Drafts that are resumed.
use Rattle.std.specs.Prelude.{◌≡◌, ℕ, List, [], Option, Some, None}
use Rattle.wk_text_rules.specs.Titles.{PageTitle}
use Rattle.wk_view_rules.specs.Expansions.{Expansion, Output}
use Rattle.wk_view_rules.specs.Plans.{and_then, run}
use Rattle.wk_view_rules.specs.Views.{expanded_by}
use Rattle.wk_view_rules.specs.Worlds.{Agrees, Seen, of_seen}
use Rattle.wk_expand.specs.Drafts.{drafted}
use Rattle.wk_expand.specs.State.{progress_of}
use Rattle.wk_expand.specs.Work.{IsNow}
use Rattle.wk_expand.specs.declared.machine.Begun.{Begun}
use Rattle.wk_expand.specs.declared.stack.Now.{Now}
use Rattle.wk_expand.specs.declared.work.Work.{Work}

-- a machine: the page, the text that is given in the place of its own, and what was read so far
pub record MachineShown : Type 0 where
  pub page : PageTitle
  pub given : Option (List ℕ)
  pub reads : Seen

-- ---- what is left of a draft

abbrev pub reads_of : Option Begun → Seen
reads_of None = []
reads_of (Some begun) = begun.work.expander.reads

-- What is left to do gives the draft: by all that answers alike what was read so far.
pub record IsLeft (page : PageTitle) (given : Option (List ℕ)) (work : Work) (now : Now) : Type 0 where
  pub rest : Expansion Output
  pub now_is : IsNow work now rest
  pub alike : (later : Seen) → Agrees (of_seen later) work.expander.reads → drafted (of_seen later) page given
      ≡ run (of_seen later) (and_then (rest (progress_of work.expander)) expanded_by) work.expander.reads

abbrev pub IsPaused : PageTitle → Option (List ℕ) → Option Begun → Type 0
IsPaused page given None = Unit {0}
IsPaused page given (Some begun) = IsLeft page given begun.work begun.now
