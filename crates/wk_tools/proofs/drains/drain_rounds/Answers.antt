use Rattle.std.proofs.Common.{◌≡◌, None, Some, refl, ◌∙◌}
use Rattle.wk_tools.specs.declared.drains.DrainEnd.TheVariants.{StoreFault}
use Rattle.wk_tools.proofs.Rounds.{drains-begin, drains-on, falls}
use Rattle.wk_tools.proofs.drains.drain_rounds.Goals as goal

pub rounds-init : goal.rounds-init
rounds-init g c = (drains-begin g.K.Keeper.told g.K.Keeper.faults c.args.wiki.now, refl)

pub rounds-smaller : goal.rounds-smaller
rounds-smaller g c = falls c.rounds.wiki c.drain_round.new.wiki c.facts.ensures.run c.in-None.ensures.goes

pub rounds-preserved : goal.rounds-preserved
rounds-preserved g c = (
  drains-on g.K.Keeper.told g.K.Keeper.faults c.args.wiki.now c.rounds.wiki c.drain_round.new.wiki None c.facts.ensures.run c.rounds.invariant.0 c.in-None.ensures,
  c.in-None.ensures.no_fault (λ e. cc) ∙ c.rounds.invariant.1,
)

pub returns-in-Some-clause-drains : goal.returns-in-Some-clause-drains
returns-in-Some-clause-drains g c =
    drains-on g.K.Keeper.told g.K.Keeper.faults c.args.wiki.now c.rounds.wiki c.drain_round.new.wiki (Some c.in-Some.end) c.facts.ensures.run c.rounds.invariant.0 c.in-Some.ensures

pub returns-in-Some-clause-no_fault : goal.returns-in-Some-clause-no_fault
returns-in-Some-clause-no_fault g c = λ other. c.in-Some.ensures.no_fault (λ e. other (let is : Some c.in-Some.end ≡ Some StoreFault = e in cc)) ∙ c.rounds.invariant.1
