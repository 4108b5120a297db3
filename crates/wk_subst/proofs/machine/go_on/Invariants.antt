use Rattle.wk_view_rules.specs.Worlds.{Agrees, of_seen}
use Rattle.wk_subst.specs.Paused.{IsLeft}
use Rattle.wk_subst.proofs.machine.go_on.Given as goal

-- what is left gives what the text becomes, and what was seen answers what was read
abbrev pub invariant-steps : goal.invariant-steps
invariant-steps l = IsLeft l.saved l.work l.now l.reads × Agrees (of_seen l.seen) l.reads
