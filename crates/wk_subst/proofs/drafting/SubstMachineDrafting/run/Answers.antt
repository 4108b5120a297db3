use Rattle.std.proofs.Common.{◌∙◌}
use Rattle.wk_subst.proofs.MadeLaws.{made-among}
use Rattle.wk_subst.proofs.drafting.SubstMachineDrafting.run.Goals as goal

pub returns-in-Ok-Done : goal.returns-in-Ok-Done
returns-in-Ok-Done c =
    let ran = rw c.in-Ok-Done.field-0-is at c.in-Ok-Done.ensures.ran in
    λ first goes. (ran.saved_is ∙ goes, made-among c.args.seen.now c.args.self.saved c.in-Ok-Done.made ran.is)
