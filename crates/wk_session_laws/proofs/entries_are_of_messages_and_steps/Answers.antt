use Rattle.wk_shared.specs.Calls.{MayFail}
use Rattle.wk_session_laws.proofs.Kept.{exchanges_go}
use Rattle.wk_session_laws.proofs.Pointed.{reply_saves, step_entries}
use Rattle.wk_session_laws.proofs.entries_are_of_messages_and_steps.Goals as goal

pub returns-clause-own : goal.returns-clause-own
returns-clause-own c = λ start. exchanges_go (MayFail start)

pub returns-clause-one : goal.returns-clause-one
returns-clause-one c = λ start old new message moments reply made x. (reply_saves (MayFail start) old new message moments reply made x).0

pub returns-clause-saves : goal.returns-clause-saves
returns-clause-saves c = λ start old new message moments reply made x. (reply_saves (MayFail start) old new message moments reply made x).1

pub returns-clause-steps : goal.returns-clause-steps
returns-clause-steps c = λ start. step_entries (MayFail start)
