use Rattle.std.proofs.Common.{refl}
use Rattle.unicode_normalization.proofs.Computing.{unicode_normalization}
use Rattle.wk_text_rules.specs.Computing.{computing}
use Rattle.wk_examples.proofs.titles.composed.Goals as goal

pub returns : goal.returns
unfolding computing unicode_normalization
returns c = refl
