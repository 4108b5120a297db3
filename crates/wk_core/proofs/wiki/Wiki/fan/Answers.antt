use Rattle.std.proofs.Common.{◌≡◌, Err, ap, ◌∙◌}
use Rattle.wk_wiki_rules.specs.Events.{Fan}
use Rattle.wk_core.specs.declared.outcomes.FanRefusal.TheVariants.{StoreFault}
use Rattle.wk_core.specs.Seen.{WikiSeen}
use Rattle.wk_core.proofs.CacheFacts.{lasting-event}
use Rattle.wk_core.proofs.wiki.Wiki.fan.Goals as goal
use Rattle.wk_core.proofs.wiki.Wiki.fan.Goals.{in-Err, in-Ok}

pub invariant_of-self : goal.invariant_of-self
invariant_of-self g c = record {
  tables = c.serve_first.ensures.told;
  cache =
      lasting-event c.self.inside.life.life c.serve_first.new.life.life Fan c.self.inside.cache.entries c.serve_first.result c.serve_first.ensures.next c.serve_first.ensures.refused
      c.self.invariant.cache;
}

pub returns-clause-no_fault : goal.returns-clause-no_fault
returns-clause-no_fault g c =
    let same = ap (λ (w : WikiSeen g.row.K.Denot). g.K.Keeper.faults w.keeper) c.self.view_is in
    elim c.match-serve_first.branch [
      | in-Ok w ↦ rw w.result-is (λ other. w.in-Ok.ensures.no_fault (λ e. cc) ∙ same)
      | in-Err w ↦ rw w.result-is (λ other. w.in-Err.ensures.no_fault (λ e. other (let is : Err w.in-Err.refusal ≡ Err StoreFault = e in cc)) ∙ same)
    ]
