use Rattle.std.proofs.Common.{arith}
use Rattle.std.proofs.lemmas.Grind.{common_steps}
use Rattle.wk_title.proofs.Squeeze.{squeezed-from_start}
use Rattle.wk_title.proofs.characters.squeezed.Goals as goal

pub returns : goal.returns
returns c = grind (arith, common_steps, squeezed-from_start)
