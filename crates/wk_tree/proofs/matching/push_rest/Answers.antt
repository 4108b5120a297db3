use Rattle.wk_tree.proofs.MeetingLemmas.{closing-one, closing-none}
use Rattle.wk_tree.proofs.matching.push_rest.Goals as goal

pub returns-in_ok-push : goal.returns-in_ok-push
returns-in_ok-push c = λ n end few k.
    closing-one c.args.left c.args.matching.now n c.saturating_sub.result end c.if-left-eq1.true c.saturating_sub.ensures c.in_ok-push.ensures.items k

pub returns-else-left-eq1 : goal.returns-else-left-eq1
returns-else-left-eq1 c = λ n end few k. closing-none c.args.left c.args.matching.now n end c.if-left-eq1.false few k
