use Rattle.std.proofs.Common.{lit≤, refl}
use Rattle.wk_cli_laws.proofs.Checks.{finished-check, no-fault, not-status, outside}
use Rattle.wk_cli_laws.proofs.examples.a_check_of_an_empty_store.Goals as goal

pub returns-clause-finished : goal.returns-clause-finished
returns-clause-finished c = finished-check c.ended.result c.ended.ensures

pub returns-clause-read : goal.returns-clause-read
returns-clause-read c = λ is. absurd (not-status c.ended.result c.ended.ensures 3 (lit≤ tt) is)

pub returns-clause-written : goal.returns-clause-written
returns-clause-written c = λ is. absurd (not-status c.ended.result c.ended.ensures 4 (lit≤ tt) is)

pub returns-clause-whole : goal.returns-clause-whole
returns-clause-whole c = refl

pub returns-clause-outside : goal.returns-clause-outside
returns-clause-outside c = outside

pub returns-clause-store : goal.returns-clause-store
returns-clause-store c = no-fault c.ended.result c.ended.ensures
