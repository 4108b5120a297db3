use Rattle.std.proofs.Common.{◌∙◌}
use Rattle.wk_frames.proofs.FrameLaws.{within-shown}
use Rattle.wk_frames.proofs.levels.Levels.is_within.Goals as goal

pub returns : goal.returns
returns c = λ frame is. c.holds.ensures ∙ within-shown c.args.self.now.root c.args.self.now.included frame c.args.title.now is
