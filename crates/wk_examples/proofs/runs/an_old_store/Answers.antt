use Rattle.std.proofs.Common.{refl}
use Rattle.wk_wiki_rules.specs.StateComputing.{computing}
use Rattle.wk_wiki_laws.proofs.Opened.{IsSound-opened_old}
use Rattle.wk_wiki_laws.proofs.GoodOpened.{IsWellFormed-opened}
use Rattle.wk_examples.specs.Wikis.{old_tables}
use Rattle.wk_examples.proofs.runs.an_old_store.Goals as goal

pub returns-clause-good : goal.returns-clause-good
unfolding computing
returns-clause-good c = refl

pub returns-clause-formed : goal.returns-clause-formed
unfolding computing
returns-clause-formed c = IsWellFormed-opened old_tables refl

pub returns-clause-sound : goal.returns-clause-sound
returns-clause-sound c = IsSound-opened_old old_tables refl

pub returns-clause-lived : goal.returns-clause-lived
unfolding computing
returns-clause-lived c = refl
