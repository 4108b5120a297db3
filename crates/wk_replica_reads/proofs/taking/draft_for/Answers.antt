use Rattle.std.proofs.Common.{length}
use Rattle.wk_replica_reads.proofs.LookLaws.{read-both}
use Rattle.wk_replica_reads.proofs.taking.draft_for.Goals as goal

pub returns-clause-pass : goal.returns-clause-pass
returns-clause-pass g c = read-both c.args.shared.now c.args.pass.now c.title_of.new.pass c.draft_apart.new.pass c.in_ok-title.ensures c.in_ok-draft.ensures.pass

pub returns-clause-own_text : goal.returns-clause-own_text
returns-clause-own_text g c = c.in_ok-draft.ensures.draft.given_is

pub returns-clause-since : goal.returns-clause-since
returns-clause-since g c = (length c.title_of.new.pass.seen, c.in_ok-draft.ensures.draft.since)
