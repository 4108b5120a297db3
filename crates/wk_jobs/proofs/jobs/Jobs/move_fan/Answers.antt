use Rattle.wk_wiki_rules.proofs.JobLemmas.{IsNumbered-moved}
use Rattle.wk_jobs.specs.Held.{held}
use Rattle.wk_jobs.proofs.Numbered.{numbered-fans}
use Rattle.wk_jobs.proofs.jobs.Jobs.move_fan.Goals as goal

pub invariant_of-self : goal.invariant_of-self
invariant_of-self c = numbered-fans c.self.inside.refreshes.jobs _ c.move_first.new.self.jobs c.self.inside.next c.move_first.ensures.jobs (IsNumbered-moved (held c.self.inside).lists c.args.cursor c.self.invariant)
