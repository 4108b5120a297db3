use Rattle.std.proofs.Common.{refl, inr}
use Rattle.wk_feed_rules.specs.Lines.{done}
use Rattle.wk_replica_reads.proofs.LookLaws.{read-free}
use Rattle.wk_replica_reads.proofs.TakeLaws.{said-since}
use Rattle.wk_replica_reads.proofs.taking.take_done.Goals as goal

pub returns-in-Ok-Some-clause-taken : goal.returns-in-Ok-Some-clause-taken
returns-in-Ok-Some-clause-taken g c =
    said-since c.args.shared.now c.args.pass.now c.draft_for.new.pass c.finish.new.pass (done c.args.ticket) c.finish.result c.draft_for.ensures.pass c.finish.ensures.taken

pub returns-in-Ok-None-clause-taken : goal.returns-in-Ok-None-clause-taken
returns-in-Ok-None-clause-taken g c =
    said-since c.args.shared.now c.args.pass.now c.draft_for.new.pass c.take_said.new.pass (done c.args.ticket) c.take_said.result c.draft_for.ensures.pass c.take_said.ensures.taken

pub returns-in-Err-clause-free : goal.returns-in-Err-clause-free
returns-in-Err-clause-free g c = read-free c.args.shared.now c.args.pass.now c.draft_for.new.pass c.draft_for.ensures.pass

pub returns-in-Err-clause-taken : goal.returns-in-Err-clause-taken
returns-in-Err-clause-taken g c = inr (c.draft_for.ensures.pass, refl)
