use Rattle.std.proofs.Common.{◌∙◌}
use Rattle.wk_drafts.proofs.DraftLaws.{draft-among}
use Rattle.wk_drafts.proofs.machines.MachineDrafting.run.Goals as goal

pub returns-in-Ok-Done : goal.returns-in-Ok-Done
returns-in-Ok-Done c =
    let ran = rw c.in-Ok-Done.field-0-is at c.in-Ok-Done.ensures.ran in
    λ first goes. (
      (ran.0 ∙ goes.0, ran.1 ∙ goes.1),
      draft-among c.args.seen.now c.args.self.page c.args.self.given c.in-Ok-Done.draft ran.2,
    )
