use Rattle.std.proofs.Common.{subst, sym}
use Rattle.wk_wiki_rules.specs.Events.{Save}
use Rattle.wk_core.specs.Plans.{HasPlanned}
use Rattle.wk_core.specs.Seen.{WikiSeen, seen}
use Rattle.wk_core.proofs.CacheFacts.{lasting-call}
use Rattle.wk_core.proofs.wiki.Wiki.save_planned.Goals as goal

pub save_accepted-requires-clause-accepted : goal.save_accepted-requires-clause-accepted
save_accepted-requires-clause-accepted g c =
    let planned = subst (λ (w : WikiSeen g.row.K.Denot). HasPlanned w c.args.plan) (sym c.self.view_is) c.requires.planned in
    record { edit = planned.edit; is = planned.is.0 }

pub save_accepted-requires-clause-standing : goal.save_accepted-requires-clause-standing
save_accepted-requires-clause-standing g c =
    let planned = subst (λ (w : WikiSeen g.row.K.Denot). HasPlanned w c.args.plan) (sym c.self.view_is) c.requires.planned in planned.is.1

pub invariant_of-self : goal.invariant_of-self
invariant_of-self g c =
    let old = seen g.K.Keeper.is_whole g.K.Keeper.told g.K.Keeper.faults c.self.inside.life.life c.self.inside.keeper in
    let new = seen g.K.Keeper.is_whole g.K.Keeper.told g.K.Keeper.faults c.save_accepted.new.life.life c.save_accepted.new.keeper in
    record {
      tables = c.save_accepted.ensures.told;
      cache =
          lasting-call g.K.Keeper.told old new (Save c.args.plan.title c.args.plan.text c.args.now) c.self.inside.cache.entries c.save_accepted.result c.save_accepted.ensures.event
          c.save_accepted.ensures.refused c.self.invariant.cache;
    }
