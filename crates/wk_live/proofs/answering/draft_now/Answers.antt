use Rattle.std.proofs.Common.{ap, ◌∙◌}
use Rattle.wk_wiki_rules.specs.States.{world_of}
use Rattle.wk_expand.specs.Machines.{MachineShown}
use Rattle.wk_expand.specs.Steps.{given_text}
use Rattle.wk_live.proofs.DraftLaws.{present}
use Rattle.wk_live.proofs.answering.draft_now.Goals as goal

pub returns : goal.returns
returns c =
    let made = rw c.in-Made.is at c.in_ok-draft.ensures.made in
    present (world_of c.args.live.now.state) c.drafted_by.new.seen c.args.page.now (given_text c.args.root.now) c.in-Made.draft made.1 made.2
    (made.0.0 ∙ ap (λ (m : MachineShown). m.page) c.in_ok-machine.ensures)
    (made.0.1 ∙ ap (λ (m : MachineShown). m.given) c.in_ok-machine.ensures)
    c.page-page.ensures.everywhere
