use Rattle.wk_tools.proofs.LivesOn.{has-lived, same-life}
use Rattle.wk_tools.proofs.drains.drain_here.Goals as goal

pub returns-in_default-clause-lived : goal.returns-in_default-clause-lived
returns-in_default-clause-lived g c = has-lived c.args.wiki.now c.args.wiki.now c.facts.ensures.run (same-life c.args.wiki.now)

pub returns-clause-lived : goal.returns-clause-lived
returns-clause-lived g c = has-lived c.args.wiki.now c.drain_rounds-end.new.wiki c.facts-2.ensures.run c.drain_rounds-end.ensures.drains.lives
