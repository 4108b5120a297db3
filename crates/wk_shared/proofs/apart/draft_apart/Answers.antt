use Rattle.std.proofs.Common.{ap}
use Rattle.wk_expand.specs.Machines.{MachineShown}
use Rattle.wk_expand.specs.Steps.{given_text}
use Rattle.wk_shared.proofs.ApartLaws.{agrees-none, answered-none, asked-none, drafted-since}
use Rattle.wk_shared.proofs.apart.draft_apart.Goals as goal

pub drafted_by-requires-clause-leaves : goal.drafted_by-requires-clause-leaves
drafted_by-requires-clause-leaves g c = asked-none c.args.shared.now c.args.pass.now c.requires

pub drafted_by-requires-clause-answers : goal.drafted_by-requires-clause-answers
drafted_by-requires-clause-answers g c = answered-none c.args.shared.now c.args.pass.now c.new-seen.result c.new-seen.ensures

pub drafted_by-requires-clause-read : goal.drafted_by-requires-clause-read
drafted_by-requires-clause-read g c = agrees-none c.new-seen.result c.in_ok-machine.machine.reads (ap (λ (m : MachineShown). m.reads) c.in_ok-machine.ensures)

pub unreachable-requires : goal.unreachable-requires
unreachable-requires g c = rw c.in-Ok-Unknown.field-0-is at c.in-Ok-Unknown.ensures.made

pub returns-in-Ok-Made-clause-draft : goal.returns-in-Ok-Made-clause-draft
returns-in-Ok-Made-clause-draft g c =
    let made = rw c.in-Ok-Made.field-0-is at c.in-Ok-Made.ensures.made in
    drafted-since c.args.shared.now c.args.pass.now c.drafted_by.new.pass c.args.title.now (given_text c.args.root.now) c.in_ok-machine.machine c.drafted_by.new.seen c.in-Ok-Made.draft
    c.in_ok-machine.ensures made.0.0 made.0.1 made.1 made.2
