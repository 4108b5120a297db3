use Rattle.wk_shared.specs.Calls.{MayFail}
use Rattle.wk_session_laws.proofs.Pointed.{all_steps_rise, replies_rise, step_behind}
use Rattle.wk_session_laws.proofs.points_never_fall.Goals as goal

pub returns-clause-replies : goal.returns-clause-replies
returns-clause-replies c = λ start. replies_rise (MayFail start)

pub returns-clause-steps : goal.returns-clause-steps
returns-clause-steps c = λ start. all_steps_rise (MayFail start)

pub returns-clause-behind : goal.returns-clause-behind
returns-clause-behind c = λ start. step_behind (MayFail start)
