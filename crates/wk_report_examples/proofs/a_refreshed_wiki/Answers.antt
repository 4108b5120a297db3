use Rattle.std.proofs.Common.{◌≡◌, Some, refl}
use Rattle.wk_wiki_rules.specs.Steps.{fan_pages}
use Rattle.wk_wiki_rules.specs.Lives.{replay_by}
use Rattle.wk_wiki_rules.specs.States.{no_state}
use Rattle.wk_wiki_laws.proofs.Always.{IsSound-replayed}
use Rattle.wk_wiki_laws.proofs.Formed.{IsWellFormed-none}
use Rattle.wk_wiki_laws.proofs.Sound.{IsSound-none}
use Rattle.wk_report_rules.specs.Computing.{computing}
use Rattle.wk_report_examples.specs.Wikis.{life, lived}
use Rattle.wk_report_examples.proofs.a_refreshed_wiki.Goals as goal

life-replayed : replay_by fan_pages no_state life ≡ Some lived
unfolding computing
life-replayed = refl

pub returns-clause-replayed : goal.returns-clause-replayed
returns-clause-replayed c = life-replayed

pub returns-clause-sound : goal.returns-clause-sound
returns-clause-sound c = IsSound-replayed fan_pages no_state lived life IsWellFormed-none IsSound-none life-replayed

pub returns-clause-no_refresh : goal.returns-clause-no_refresh
returns-clause-no_refresh c = refl

pub returns-clause-no_fan : goal.returns-clause-no_fan
returns-clause-no_fan c = refl

pub returns-clause-stored : goal.returns-clause-stored
unfolding computing
returns-clause-stored c = refl

pub returns-clause-expanded : goal.returns-clause-expanded
unfolding computing
returns-clause-expanded c = refl
