use Rattle.std.proofs.Common.{Err, ap, ◌∙◌}
use Rattle.wk_core.specs.Answers.{cause_of}
use Rattle.wk_core.proofs.LoadFacts.{loaded-again, same-refusal}
use Rattle.wk_core.proofs.load.open_tables.Goals as goal

pub returns-in-Ok-clause-queued : goal.returns-in-Ok-clause-queued
returns-in-Ok-clause-queued g c = loaded-again c.args.tables.now.tables c.in_ok-life.life.life.state c.in_ok-life.ensures.state

pub returns-in-Err-clause-no_fault : goal.returns-in-Err-clause-no_fault
returns-in-Err-clause-no_fault g c = λ other. c.in-Err.ensures.no_fault (λ e. other (ap (λ cause. Err cause) (c.from.ensures ∙ ap cause_of (same-refusal e))))
