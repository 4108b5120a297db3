use Rattle.std.proofs.Common.{arith, ◌∙◌}
use Rattle.wk_lines.proofs.Joined.{ends_on, fills_on, none_left, rest_of, stops_on}
use Rattle.wk_lines.proofs.reading.next_line.Goals as goal

pub returns-in-Err-clause-err : goal.returns-in-Err-clause-err
returns-in-Err-clause-err g c =
    stops_on _ _ _ _ _ _ _ _ c.next.result c.in-Err.stop c.reads.invariant.0 c.next.ensures.line c.in-More.is c.in-Err.ensures.err

pub reads-preserved : goal.reads-preserved
reads-preserved g c =
    let before = c.reads.invariant in
    let on = fills_on _ _ _ _ _ _ _ _ c.next.result c.in-Ok.ended before.0 c.next.ensures.line c.in-More.is c.in-Ok.ensures.ok c.if-ended.false in
    (on.0, c.fill.ensures.few before.1, omega (arith, before.2, on.1), c.in-Ok.ensures.no_fault ∙ before.3, c.fill.ensures.begun)

pub fill-requires-clause-none : goal.fill-requires-clause-none
fill-requires-clause-none g c = none_left _ _ c.next.result c.next.ensures.line c.in-More.is c.next.ensures.more

pub fill-requires-clause-begun : goal.fill-requires-clause-begun
fill-requires-clause-begun g c = rest_of _ _ c.next.result c.next.ensures.line c.reads.invariant.4

pub returns-then-ended-clause-ok : goal.returns-then-ended-clause-ok
returns-then-ended-clause-ok g c =
    ends_on _ _ _ _ _ _ _ _ _ _ c.next.result c.end.result c.in-Ok.ended c.reads.invariant.0 c.next.ensures.line c.in-More.is
    (c.next.ensures.more.0 c.in-More.is) c.reads.invariant.4 c.in-Ok.ensures.ok c.if-ended.true c.end.ensures.line
