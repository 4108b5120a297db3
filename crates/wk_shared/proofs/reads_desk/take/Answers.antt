use Rattle.std.proofs.Common.{subst}
use Rattle.wk_wiki_rules.specs.Starts.{Start}
use Rattle.wk_life_laws.specs.Runs.{IsRun}
use Rattle.wk_shared.proofs.reads_desk.take.Goals as goal

pub returns-clause-taken : goal.returns-clause-taken
returns-clause-taken g c = record {
  pass = c.enter-held.ensures.pass;
  start = c.enter-held.ensures.start;
  seen = c.enter-held.ensures.seen;
  run = subst (λ (s : Start). IsRun s c.enter-held.result.value.journal c.enter-held.result.value.state) c.enter-held.ensures.start c.facts.ensures.run;
}
