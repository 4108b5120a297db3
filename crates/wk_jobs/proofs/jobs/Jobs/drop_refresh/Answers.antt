use Rattle.wk_wiki_rules.proofs.JobLemmas.{IsNumbered-dropped}
use Rattle.wk_jobs.specs.Held.{held}
use Rattle.wk_jobs.proofs.Numbered.{numbered-refreshes}
use Rattle.wk_jobs.proofs.jobs.Jobs.drop_refresh.Goals as goal

pub invariant_of-self : goal.invariant_of-self
invariant_of-self c = numbered-refreshes _ c.remove.new.self.jobs c.self.inside.fans.jobs c.self.inside.next c.remove.ensures.jobs (IsNumbered-dropped (held c.self.inside).lists c.args.page c.self.invariant)
