use Rattle.std.proofs.Common.{arith}
use Rattle.wk_index.proofs.EntryLaws.{entries-more}
use Rattle.wk_index.proofs.gathered.push_members.Goals as goal

pub loop-member-preserved : goal.loop-member-preserved
loop-member-preserved c = (
  entries-more c.args.members.now c.loop-member.member-index c.member-item.result c.args.page c.loop-member.entries.items c.push_entry.new.entries.items (omega arith) c.member-item.is
      c.in_ok-push_entry.ensures.there c.in_ok-push_entry.ensures.kept c.loop-member.invariant.0,
  λ x page before. c.in_ok-push_entry.ensures.kept x page (c.loop-member.invariant.1 x page before),
)
