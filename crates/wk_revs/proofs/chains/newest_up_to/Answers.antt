use Rattle.std.proofs.Common.{arith}
use Rattle.wk_revs.proofs.ChainLaws.{jumps_back, links_fall, none_of_none, steps_back}
use Rattle.wk_revs.proofs.chains.newest_up_to.Goals as goal

pub returns-then-page-eq0 : goal.returns-then-page-eq0
returns-then-page-eq0 c = none_of_none _ _ _ _ _ c.requires c.if-page-eq0.true

pub back-preserved-then-number-link : goal.back-preserved-then-number-link
back-preserved-then-number-link c =
    let is = c.link_of-link.ensures.some (omega (arith, c.back-test.true)) in
    jumps_back _ _ _ _ _ _ _ c.requires c.back.invariant c.back-test.true is c.if-number-link.true

pub back-smaller : goal.back-smaller
back-smaller c =
    let is = c.link_of-link.ensures.some (omega (arith, c.back-test.true)) in
    (links_fall _ _ _ _ _ c.requires (omega (arith, c.back-test.true)) c.back.invariant.own.within is).0

pub back-preserved : goal.back-preserved
back-preserved c =
    let is = c.link_of-link.ensures.some (omega (arith, c.back-test.true)) in
    steps_back _ _ _ _ _ _ _ c.requires c.back.invariant c.back-test.true is
