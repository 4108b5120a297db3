use Rattle.wk_wiki_laws.proofs.FanServes.{fan-queues, users-named, users-rise, fan-ends, fan-stands}
use Rattle.wk_wiki_laws.proofs.fans.a_fan_serves_each_page_once.Goals as goal

pub returns-clause-queued : goal.returns-clause-queued
returns-clause-queued c = fan-queues

pub returns-clause-served : goal.returns-clause-served
returns-clause-served c = users-named

pub returns-clause-rising : goal.returns-clause-rising
returns-clause-rising c = users-rise

pub returns-clause-ended : goal.returns-clause-ended
returns-clause-ended c = fan-ends

pub returns-clause-moved : goal.returns-clause-moved
returns-clause-moved c = fan-stands
