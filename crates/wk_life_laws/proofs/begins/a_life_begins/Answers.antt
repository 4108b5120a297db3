use Rattle.wk_life_laws.proofs.Lives.{begun_life, empty_life, opened_life, reopened_life, renewed_life}
use Rattle.wk_life_laws.proofs.begins.a_life_begins.Goals as goal

pub returns-clause-kept : goal.returns-clause-kept
returns-clause-kept c = begun_life

pub returns-clause-empty : goal.returns-clause-empty
returns-clause-empty c = empty_life

pub returns-clause-opened : goal.returns-clause-opened
returns-clause-opened c = opened_life

pub returns-clause-reopened : goal.returns-clause-reopened
returns-clause-reopened c = reopened_life

pub returns-clause-renewed : goal.returns-clause-renewed
returns-clause-renewed c = renewed_life
