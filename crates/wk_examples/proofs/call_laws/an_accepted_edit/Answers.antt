use Rattle.std.proofs.Common.{refl}
use Rattle.wk_wiki_rules.specs.Computing.{computing}
use Rattle.wk_examples.proofs.call_laws.an_accepted_edit.Goals as goal

pub returns : goal.returns
unfolding computing
returns c = refl
