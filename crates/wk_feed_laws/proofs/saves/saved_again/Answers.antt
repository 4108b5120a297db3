use Rattle.wk_feed_laws.proofs.Events.{event-of-its-line}
use Rattle.wk_feed_laws.proofs.SavedAgain.{verdict-again}
use Rattle.wk_feed_laws.proofs.saves.saved_again.Goals as goal

pub returns-clause-accepted : goal.returns-clause-accepted
returns-clause-accepted c = verdict-again

pub returns-clause-line : goal.returns-clause-line
returns-clause-line c = event-of-its-line
