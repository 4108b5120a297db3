use Rattle.wk_shared.specs.Calls.{MayFail}
use Rattle.wk_session_laws.proofs.Kept.{reply_stays}
use Rattle.wk_session_laws.proofs.answers_stay_right.Goals as goal

pub returns : goal.returns
returns c = λ start old new later message moments reply made same seen x. reply_stays new later same seen (MayFail start) old message moments reply made x
