use Rattle.wk_shared.specs.Calls.{MayFail}
use Rattle.wk_session_laws.proofs.Pointed.{parse_answered, parse_reached}
use Rattle.wk_session_laws.proofs.a_parse_is_answered.Goals as goal

pub returns-clause-seen : goal.returns-clause-seen
returns-clause-seen c = λ start. parse_answered (MayFail start)

pub returns-clause-reached : goal.returns-clause-reached
returns-clause-reached c = λ start. parse_reached (MayFail start)
