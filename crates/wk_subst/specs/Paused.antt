-- What is left of a substitution that has begun.
use Rattle.std.specs.Prelude.{◌≡◌, ℕ, List, [], Option, Some, None}
use Rattle.wk_view_rules.specs.Plans.{and_then, run}
use Rattle.wk_view_rules.specs.Worlds.{Seen, Agrees, of_seen}
use Rattle.wk_subst_rules.specs.Substitution.{substituted, text_alone}
use Rattle.wk_subst.specs.Work.{IsNode, IsSound, plan_of}
use Rattle.wk_subst.specs.declared.machine.Begun.{Begun}
use Rattle.wk_subst.specs.declared.work.Now.{Now}
use Rattle.wk_subst.specs.declared.work.Work.{Work}

abbrev pub reads_of : Option Begun → Seen
reads_of None = []
reads_of (Some begun) = begun.reads

-- What is left to do gives what the text becomes: by all that answers alike what was read so far.
pub record IsLeft (saved : List ℕ) (work : Work) (now : Now) (reads : Seen) : Type 0 where
  pub sound : IsSound work
  pub node : IsNode work now
  pub alike : (later : Seen) → Agrees (of_seen later) reads
      → substituted (of_seen later) saved ≡ run (of_seen later) (and_then (plan_of work now) text_alone) reads

abbrev pub IsPaused : List ℕ → Option Begun → Type 0
IsPaused saved None = Unit {0}
IsPaused saved (Some begun) = IsLeft saved begun.work begun.now begun.reads
