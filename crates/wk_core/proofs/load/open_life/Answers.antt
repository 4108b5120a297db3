use Rattle.std.proofs.Common.{Err, ap, ◌∙◌}
use Rattle.wk_core.specs.Answers.{cause_of}
use Rattle.wk_core.proofs.LoadFacts.{both-ok, opened-told, same-refusal}
use Rattle.wk_core.proofs.load.open_life.Goals as goal

pub returns-in-Ok-clause-state : goal.returns-in-Ok-clause-state
returns-in-Ok-clause-state g c =
    both-ok _ _ _ c.open_tables.result
    (λ life good is. opened-told (g.K.Keeper.told c.args.keeper.now) c.in-Ok.tables.tables life.life.state c.in-Ok.ensures.given good is)
    c.open_tables.ensures.good c.open_tables.ensures.state

pub returns-in-Err-clause-no_fault : goal.returns-in-Err-clause-no_fault
returns-in-Err-clause-no_fault g c = λ other. c.in-Err.ensures.no_fault (λ e. other (ap (λ cause. Err cause) (c.from.ensures ∙ ap cause_of (same-refusal e))))

pub returns-in-Ok-clause-no_fault : goal.returns-in-Ok-clause-no_fault
returns-in-Ok-clause-no_fault g c = λ other. c.open_tables.ensures.no_fault other ∙ c.in-Ok.ensures.no_fault (λ e. cc)
