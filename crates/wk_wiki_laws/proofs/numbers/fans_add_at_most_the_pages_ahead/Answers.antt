use Rattle.wk_wiki_laws.proofs.NumberBounds.{sum-step, sum-replay, sum-reopened}
use Rattle.wk_wiki_laws.proofs.numbers.fans_add_at_most_the_pages_ahead.Goals as goal

pub returns-clause-stepped : goal.returns-clause-stepped
returns-clause-stepped c = sum-step

pub returns-clause-replayed : goal.returns-clause-replayed
returns-clause-replayed c = sum-replay

pub returns-clause-reopened : goal.returns-clause-reopened
returns-clause-reopened c = sum-reopened
