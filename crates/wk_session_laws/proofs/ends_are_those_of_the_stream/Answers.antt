use Rattle.std.proofs.Common.{refl}
use Rattle.wk_wire_rules.specs.Messages.{bad, closed}
use Rattle.wk_session_laws.proofs.Kept.{bad_stays, closed_stays}
use Rattle.wk_session_laws.proofs.ends_are_those_of_the_stream.Goals as goal

pub returns-clause-closed : goal.returns-clause-closed
returns-clause-closed c = λ read more messages x. closed_stays read more messages closed refl x

pub returns-clause-bad : goal.returns-clause-bad
returns-clause-bad c = λ read more messages status x. bad_stays read more messages (bad status) status refl x
