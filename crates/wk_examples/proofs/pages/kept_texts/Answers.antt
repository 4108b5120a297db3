use Rattle.std.proofs.Common.{refl}
use Rattle.wk_page_rules.specs.Computing.{computing}
use Rattle.wk_examples.proofs.pages.kept_texts.Goals as goal

pub returns-clause-line_ends : goal.returns-clause-line_ends
unfolding computing
returns-clause-line_ends c = refl

pub returns-clause-blank : goal.returns-clause-blank
unfolding computing
returns-clause-blank c = refl
