use Rattle.std.proofs.Common.{refl, arith, ◌+◌}
use Rattle.wk_http.proofs.KnownLemmas.{open_below, open_now}
use Rattle.wk_http.proofs.feed.step_at_head.Goals as goal

pub returns-then-left-count : goal.returns-then-left-count
returns-then-left-count c =
    let below = open_below c.args.left.now c.args.head.now c.requires in
    let count = c.args.head.now.head_len + c.args.head.now.body_len in
    record {
      inside = omega arith;
      gives = (open_now c.args.left.now count below c.if-left-count.true, refl);
      known = below;
    }
