use Rattle.wk_wiki_laws.proofs.HonestReads.{IsHonest-stepped, IsHonest-replayed, IsHonest-lived, IsHonest-lived_from_store}
use Rattle.wk_wiki_laws.proofs.fans.honest_reads_stay_honest.Goals as goal

pub returns-clause-stepped : goal.returns-clause-stepped
returns-clause-stepped c = IsHonest-stepped

pub returns-clause-replayed : goal.returns-clause-replayed
returns-clause-replayed c = IsHonest-replayed

pub returns-clause-reopened : goal.returns-clause-reopened
returns-clause-reopened c = λ state reads honest. honest

pub returns-clause-lived : goal.returns-clause-lived
returns-clause-lived c = IsHonest-lived

pub returns-clause-lived_from_store : goal.returns-clause-lived_from_store
returns-clause-lived_from_store c = IsHonest-lived_from_store
