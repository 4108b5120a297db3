use Rattle.std.proofs.Common.{length, ap, ◌∙◌}
use Rattle.wk_subst.specs.MachineShown.{MachineShown}
use Rattle.wk_read_laws.proofs.PointLaws.{reads-among}
use Rattle.wk_shared.proofs.ApartLaws.{agrees-none, answered-none, asked-none}
use Rattle.wk_shared.proofs.substituting.substituted_apart.Goals as goal

pub drafted_by-requires-clause-leaves : goal.drafted_by-requires-clause-leaves
drafted_by-requires-clause-leaves g c = asked-none c.args.shared.now c.args.pass.now c.requires

pub drafted_by-requires-clause-answers : goal.drafted_by-requires-clause-answers
drafted_by-requires-clause-answers g c = answered-none c.args.shared.now c.args.pass.now c.new-seen.result c.new-seen.ensures

pub drafted_by-requires-clause-read : goal.drafted_by-requires-clause-read
drafted_by-requires-clause-read g c = agrees-none c.new-seen.result c.in_ok-machine.machine.reads (ap (λ (m : MachineShown). m.reads) c.in_ok-machine.ensures)

pub unreachable-requires : goal.unreachable-requires
unreachable-requires g c = rw c.in-Ok-Unknown.field-0-is at c.in-Ok-Unknown.ensures.made

pub returns-in-Ok-Made-clause-saved : goal.returns-in-Ok-Made-clause-saved
returns-in-Ok-Made-clause-saved g c =
    let made = rw c.in-Ok-Made.field-0-is at c.in-Ok-Made.ensures.made in
    made.0 ∙ ap (λ (m : MachineShown). m.saved) c.in_ok-machine.ensures

pub returns-in-Ok-Made-clause-since : goal.returns-in-Ok-Made-clause-since
returns-in-Ok-Made-clause-since g c =
    let made = rw c.in-Ok-Made.field-0-is at c.in-Ok-Made.ensures.made in
    reads-among c.args.shared.now.start c.drafted_by.new.pass.seen (length c.args.pass.now.seen) c.drafted_by.new.seen c.in-Ok-Made.made.reads made.1 made.2
