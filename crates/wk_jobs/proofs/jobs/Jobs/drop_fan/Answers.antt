use Rattle.wk_wiki_rules.proofs.JobLemmas.{IsNumbered-fan_dropped}
use Rattle.wk_jobs.specs.Held.{held}
use Rattle.wk_jobs.proofs.Numbered.{numbered-fans}
use Rattle.wk_jobs.proofs.jobs.Jobs.drop_fan.Goals as goal

pub invariant_of-self : goal.invariant_of-self
invariant_of-self c = numbered-fans c.self.inside.refreshes.jobs _ c.remove_first.new.self.jobs c.self.inside.next c.remove_first.ensures.jobs (IsNumbered-fan_dropped (held c.self.inside).lists c.self.invariant)
