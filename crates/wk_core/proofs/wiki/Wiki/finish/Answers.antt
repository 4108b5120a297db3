use Rattle.wk_core.specs.Answers.{event_of_answer}
use Rattle.wk_core.proofs.CacheFacts.{lasting-next}
use Rattle.wk_core.proofs.wiki.Wiki.finish.Goals as goal

pub invariant_of-self : goal.invariant_of-self
invariant_of-self g c = record {
  tables = c.finish_by.ensures.told;
  cache =
      lasting-next c.self.inside.life.life c.finish_by.new.life.life (event_of_answer c.let_go.result c.finish_by.result) c.self.inside.cache.entries c.finish_by.ensures.next
      c.self.invariant.cache;
}
