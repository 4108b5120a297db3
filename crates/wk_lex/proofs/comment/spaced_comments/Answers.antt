use Rattle.std.proofs.Common.{◌<◌, ◌≤◌, ◌∙◌, length}
use Rattle.wk_lex.specs.Parts.{spaced_comment}
use Rattle.wk_lex.proofs.PlaceLemmas.{further, one_or_more-begun, repeated-more, repeated-done}
use Rattle.wk_lex.proofs.comment.spaced_comments.Goals as goal

pub loop-next-init : goal.loop-next-init
loop-next-init c =
    let w : (c.args.at < c.in_ok-end.end) × (c.in_ok-end.end ≤ length c.args.text.now) = c.in_ok-end.ensures.within in
    record { behind = w.0; within = w.1; left = one_or_more-begun spaced_comment c.args.text.now c.args.at c.in_ok-end.end c.in_ok-end.ensures }

pub loop-next-preserved : goal.loop-next-preserved
loop-next-preserved c =
    let w : (c.loop-next.end < c.in-Some.next) × (c.in-Some.next ≤ length c.args.text.now) = c.in-Some.ensures.within in
    let behind : c.args.at < c.loop-next.end = c.loop-next.invariant.behind in
    let left = c.loop-next.invariant.left in
    let more = repeated-more spaced_comment c.args.text.now left.0 c.loop-next.end c.in-Some.next left.1 c.in-Some.ensures in
    record { behind = further c.args.at c.loop-next.end c.in-Some.next behind w.0; within = w.1; left = (more.0, more.1, left.2 ∙ more.2) }

pub returns : goal.returns
returns c =
    let left = c.loop-next.invariant.left in record {
      fits = left.2 ∙ repeated-done spaced_comment c.args.text.now left.0 c.loop-next.end c.in_default.ensures;
      within = (c.loop-next.invariant.behind, c.loop-next.invariant.within);
    }
