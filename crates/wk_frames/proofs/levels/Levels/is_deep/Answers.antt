use Rattle.std.proofs.Common.{ap, ◌∙◌}
use Rattle.std.specs.Bool.{nat_le}
use Rattle.wk_view_rules.specs.Expansions.{most_depth}
use Rattle.wk_frames.proofs.FrameLaws.{length-shown}
use Rattle.wk_frames.proofs.levels.Levels.is_deep.Goals as goal

pub returns : goal.returns
returns c = λ frame is. ap (nat_le most_depth) (c.depth.ensures ∙ length-shown c.args.self.now.root c.args.self.now.included frame is)
