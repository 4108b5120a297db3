use Rattle.wk_wiki_laws.proofs.FanRuns.{run-serves, run-exact, run-rises, run-queues, run-ends_job, run-ends}
use Rattle.wk_wiki_laws.proofs.fans.a_run_of_fans_serves_every_page.Goals as goal

pub returns-clause-served : goal.returns-clause-served
returns-clause-served c = run-serves

pub returns-clause-exact : goal.returns-clause-exact
returns-clause-exact c = run-exact

pub returns-clause-rising : goal.returns-clause-rising
returns-clause-rising c = run-rises

pub returns-clause-queued : goal.returns-clause-queued
returns-clause-queued c = run-queues

pub returns-clause-gone : goal.returns-clause-gone
returns-clause-gone c = run-ends_job

pub returns-clause-ends : goal.returns-clause-ends
returns-clause-ends c = run-ends
