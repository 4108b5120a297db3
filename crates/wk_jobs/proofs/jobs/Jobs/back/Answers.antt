use Rattle.wk_wiki_rules.proofs.JobLemmas.{IsNumbered-given_back}
use Rattle.wk_jobs.specs.Held.{held}
use Rattle.wk_jobs.proofs.Numbered.{numbered-refreshes}
use Rattle.wk_jobs.proofs.jobs.Jobs.back.Goals as goal

pub invariant_of-self : goal.invariant_of-self
invariant_of-self c = numbered-refreshes _ c.back.new.self.jobs c.self.inside.fans.jobs c.self.inside.next c.back.ensures.jobs (IsNumbered-given_back (held c.self.inside).lists c.args.page c.self.invariant)
