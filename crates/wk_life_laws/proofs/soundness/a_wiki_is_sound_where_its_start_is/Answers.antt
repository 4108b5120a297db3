use Rattle.wk_wiki_rules.specs.Steps.{fan_pages}
use Rattle.wk_life_laws.proofs.Since.{IsSoundSince-start, IsSoundSince-step, IsSoundSince-reopened, IsSoundSince-replayed}
use Rattle.wk_life_laws.proofs.soundness.a_wiki_is_sound_where_its_start_is.Goals as goal

pub returns-clause-start : goal.returns-clause-start
returns-clause-start c = IsSoundSince-start

pub returns-clause-stepped : goal.returns-clause-stepped
returns-clause-stepped c = IsSoundSince-step

pub returns-clause-reopened : goal.returns-clause-reopened
returns-clause-reopened c = IsSoundSince-reopened

pub returns-clause-replayed : goal.returns-clause-replayed
returns-clause-replayed c = λ start last events. IsSoundSince-replayed fan_pages start last 0 events
