use Rattle.wk_wiki_rules.proofs.JobLemmas.{IsNumbered-claimed}
use Rattle.wk_jobs.specs.Held.{held}
use Rattle.wk_jobs.proofs.Numbered.{numbered-refreshes}
use Rattle.wk_jobs.proofs.jobs.Jobs.claim_first.Goals as goal

pub invariant_of-self : goal.invariant_of-self
invariant_of-self c = numbered-refreshes _ c.claim_first.new.self.jobs c.self.inside.fans.jobs c.self.inside.next c.claim_first.ensures.jobs (IsNumbered-claimed (held c.self.inside).lists c.args.ticket c.self.invariant)
