use Rattle.std.proofs.Common.{◌++◌, arith}
use Rattle.wk_index.specs.Listing.{members_from, own_members}
use Rattle.wk_index.proofs.MembersLaws.{own-all, own-more}
use Rattle.wk_index.proofs.members.push_own.Goals as goal

pub loop-member-preserved : goal.loop-member-preserved
loop-member-preserved c =
    own-more c.args.entry.now c.args.members.now c.loop-member.member-index c.member-item.result c.args.most c.loop-member.listed.items c.push_if_own.new.listed.items c.loop-member.left c.in_ok-left.left
    (λ rest. members_from c.args.most c.args.listed.now.items c.args.passed (own_members c.args.entry.now c.args.members.now ++ rest))
    (omega arith) c.member-item.is c.in_ok-left.ensures c.loop-member.invariant

pub returns : goal.returns
returns c =
    own-all c.args.entry.now c.args.members.now c.loop-member.member-index c.args.most c.loop-member.listed.items c.loop-member.left
    (λ rest. members_from c.args.most c.args.listed.now.items c.args.passed (own_members c.args.entry.now c.args.members.now ++ rest))
    (omega arith) c.loop-member.invariant
