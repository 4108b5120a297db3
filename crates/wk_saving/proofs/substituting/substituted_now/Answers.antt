use Rattle.std.proofs.Common.{ap, ◌∙◌}
use Rattle.wk_wiki_rules.specs.States.{world_of}
use Rattle.wk_subst.specs.MachineShown.{MachineShown}
use Rattle.wk_saving.proofs.TransformAnswers.{made-by}
use Rattle.wk_saving.proofs.substituting.substituted_now.Goals as goal

pub returns-clause-made : goal.returns-clause-made
returns-clause-made c =
    let ended = rw c.in-Made.is at c.in_ok-made.ensures.made in
    made-by (world_of c.args.live.now.state) c.drafted_by.new.seen c.args.text.now c.in-Made.made.saved c.in-Made.made.text c.in-Made.made.reads ended.1 ended.2
    (ended.0 ∙ ap (λ (m : MachineShown). m.saved) c.in_ok-machine.ensures) c.text-text.ensures.everywhere
