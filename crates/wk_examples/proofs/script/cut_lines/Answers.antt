use Rattle.std.proofs.Common.{refl}
use Rattle.wk_page_rules.specs.Computing.{computing as pages}
use Rattle.wk_examples.proofs.script.cut_lines.Goals as goal

pub returns-clause-long : goal.returns-clause-long
unfolding pages
returns-clause-long c = refl

pub returns-clause-nothing : goal.returns-clause-nothing
unfolding pages
returns-clause-nothing c = refl

pub returns-clause-short : goal.returns-clause-short
unfolding pages
returns-clause-short c = refl
