use Rattle.std.proofs.Common.{◌≡◌, ◌∷◌, [], ◌++◌, Some, refl, codes}
use Rattle.wk_wiki_rules.specs.StateComputing.{computing}
use Rattle.wk_wiki_rules.specs.States.{no_state}
use Rattle.wk_wiki_rules.specs.Events.{Save}
use Rattle.wk_wiki_rules.specs.Lives.{replay_by}
use Rattle.wk_wiki_laws.proofs.Sound.{IsSound-none}
use Rattle.wk_wiki_laws.proofs.Formed.{IsWellFormed-none}
use Rattle.wk_wiki_laws.proofs.Always.{IsSound-lives, IsSound-replayed}
use Rattle.wk_examples.specs.Stores.{title_t}
use Rattle.wk_examples.specs.Wikis.{race, race_12, users_journal, users_9, users_10}
use Rattle.wk_life_laws.proofs.Since.{IsSoundSince-replayed}
use Rattle.wk_examples.proofs.runs.sound_wikis.Goals as goal

race-lives : goal.returns-clause-lived
unfolding computing
race-lives c = refl

users-replayed : replay_by 2 no_state users_journal ≡ Some users_9
unfolding computing
users-replayed = refl

fan-replayed : replay_by 2 no_state (users_journal ++ Save title_t (Some (codes "x")) 12 ∷ []) ≡ Some users_10
unfolding computing
fan-replayed = refl

pub returns-clause-lived : goal.returns-clause-lived
returns-clause-lived c = race-lives c

pub returns-clause-no_job_left : goal.returns-clause-no_job_left
unfolding computing
returns-clause-no_job_left c = IsSound-lives (race ∷ []) race_12 refl

pub returns-clause-replayed : goal.returns-clause-replayed
returns-clause-replayed c = users-replayed

pub returns-clause-before_a_save : goal.returns-clause-before_a_save
returns-clause-before_a_save c = IsSound-replayed 2 no_state users_9 users_journal IsWellFormed-none IsSound-none users-replayed

pub returns-clause-formed_before_a_save : goal.returns-clause-formed_before_a_save
returns-clause-formed_before_a_save c = (IsSoundSince-replayed 2 no_state users_9 0 users_journal IsWellFormed-none users-replayed).formed

pub returns-clause-before_a_fan : goal.returns-clause-before_a_fan
returns-clause-before_a_fan c = IsSound-replayed 2 no_state users_10 (users_journal ++ Save title_t (Some (codes "x")) 12 ∷ []) IsWellFormed-none IsSound-none fan-replayed
