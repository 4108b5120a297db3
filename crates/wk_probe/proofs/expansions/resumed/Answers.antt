use Rattle.wk_probe.proofs.ResumedLaws.{draft-step, need-known, need-step}
use Rattle.wk_expand.proofs.StepLaws.{agrees-seen}
use Rattle.wk_view_rules.specs.Worlds.{of_seen}
use Rattle.wk_probe.proofs.expansions.resumed.Goals as goal

pub returns-in-Made-clause-step : goal.returns-in-Made-clause-step
returns-in-Made-clause-step c =
    let made = rw c.in-Made.is at c.in_ok-draft.ensures.made in
    let known = c.args.known.now in
    let d = c.in-Made.draft in
    draft-step c.args.page.now c.args.root.now c.in_ok-machine.machine c.in_ok-machine.ensures known d made.0 c.page-page.ensures.everywhere
    (agrees-seen (of_seen known) c.drafted_by.new.seen d.reads made.1.are_known made.2)

pub returns-in-Made-clause-runs : goal.returns-in-Made-clause-runs
returns-in-Made-clause-runs c =
    let made = rw c.in-Made.is at c.in_ok-draft.ensures.made in
    record {
      given = c.drafted_by.new.seen;
      are_known = made.1.are_known;
      count = made.1.count;
      by_given = draft-step c.args.page.now c.args.root.now c.in_ok-machine.machine c.in_ok-machine.ensures c.drafted_by.new.seen c.in-Made.draft made.0 c.page-page.ensures.everywhere made.2;
    }

pub returns-clause-step : goal.returns-clause-step
returns-clause-step c =
    let lacks = rw c.in-Unknown.is at c.in_ok-draft.ensures.made in
    let needed = rw c.in-Unknown.is at c.in_ok-draft.ensures.needed in
    need-known c.args.page.now c.args.root.now c.in_ok-machine.machine c.in_ok-machine.ensures c.args.known.now c.drafted_by.new.seen c.in-Unknown.title c.in-Unknown.kind needed.1.are_known needed.0 lacks

pub returns-clause-runs : goal.returns-clause-runs
returns-clause-runs c =
    let needed = rw c.in-Unknown.is at c.in_ok-draft.ensures.needed in
    record {
      given = c.drafted_by.new.seen;
      are_known = needed.1.are_known;
      count = needed.1.count;
      by_given = need-step c.args.page.now c.args.root.now c.in_ok-machine.machine c.in_ok-machine.ensures c.drafted_by.new.seen c.in-Unknown.title c.in-Unknown.kind needed.0;
    }
