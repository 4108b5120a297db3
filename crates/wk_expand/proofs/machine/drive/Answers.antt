use Rattle.std.proofs.Common.{Option, subst}
use Rattle.wk_view_rules.specs.Worlds.{Agrees, of_seen}
use Rattle.wk_expand.specs.Machines.{reads_of}
use Rattle.wk_expand.specs.declared.machine.Begun.{Begun}
use Rattle.wk_expand.proofs.machine.drive.Goals as goal

pub go_on-requires-clause-answered : goal.go_on-requires-clause-answered
go_on-requires-clause-answered c = subst (λ (b : Option Begun). Agrees (of_seen c.args.seen.now) (reads_of b)) c.in-Some.is c.requires.answered
