use Rattle.wk_view_rules.specs.Worlds.{Agrees, of_seen}
use Rattle.wk_expand.specs.Machines.{IsLeft}
use Rattle.wk_expand.proofs.machine.go_on.Given as goal

-- what is left gives the draft, and what was seen answers what was read
abbrev pub invariant-steps : goal.invariant-steps
invariant-steps l = IsLeft l.page l.given l.work l.now × Agrees (of_seen l.seen) l.work.expander.reads
