use Rattle.std.proofs.Common.{refl, ap, arith}
use Rattle.wk_tools.proofs.Rounds.{claimed-not-empty, no-job, nothing-same, round-done, round-renews, same-keeper, some-queued}
use Rattle.wk_tools.proofs.drains.drain_round.Goals as goal

pub refresh_round-requires : goal.refresh_round-requires
refresh_round-requires g c =
    let queued = ap (λ l. l.queued) c.left-left.ensures in
    let some = c.if-left-gt0-2.true in
    some-queued c.args.wiki.now.state.jobs.refreshes (omega (arith, queued, some))

pub returns-then-left-gt0-3 : goal.returns-then-left-gt0-3
returns-then-left-gt0-3 g c =
    let claimed = ap (λ l. l.claimed) c.left-left.ensures in
    let some = c.if-left-gt0-3.true in
    round-renews g.K.Keeper.told g.K.Keeper.faults c.args.wiki.now c.args.wiki.now c.begin_anew.new.wiki c.begin_anew.result
    (nothing-same g.K.Keeper.told c.args.wiki.now c.args.wiki.now refl) (same-keeper g.K.Keeper.told g.K.Keeper.faults c.args.wiki.now) refl refl
    c.begin_anew.ensures.goes c.begin_anew.ensures.ends c.begin_anew.ensures.full c.begin_anew.ensures.not_done c.begin_anew.ensures.no_fault c.begin_anew.ensures.keeper
    (λ empty. absurd (claimed-not-empty c.args.wiki.now c.facts.ensures.run empty (omega (arith, claimed, some))))

pub returns : goal.returns
returns g c =
    let fans = ap (λ l. l.fans) c.left-left.ensures in
    let queued = ap (λ l. l.queued) c.left-left.ensures in
    let claimed = ap (λ l. l.claimed) c.left-left.ensures in
    let no_fan = c.if-left-gt0.false in
    let no_queued = c.if-left-gt0-2.false in
    let no_claimed = c.if-left-gt0-3.false in
    round-done g.K.Keeper.told g.K.Keeper.faults c.args.wiki.now (no-job c.args.wiki.now.state (omega (arith, fans, no_fan)) (omega (arith, queued, no_queued)) (omega (arith, claimed, no_claimed)))
