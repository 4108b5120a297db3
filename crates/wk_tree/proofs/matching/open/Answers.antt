use Rattle.std.proofs.Common.{◌∙◌}
use Rattle.wk_tree.proofs.MeetingLemmas.{opened-as}
use Rattle.wk_tree.proofs.matching.open.Goals as goal

pub returns : goal.returns
returns c = λ seen k long fits.
    opened-as c.args.run seen c.len-slot.result c.len-bars.result c.saturating_sub.result long fits
    (c.len-slot.ensures ∙ c.args.matching.now.tokens.ok.0) (c.len-bars.ensures ∙ c.args.matching.now.bars.ok.0) c.saturating_sub.ensures
    c.in_ok-push_plain.ensures c.in_ok-push.ensures.items k
