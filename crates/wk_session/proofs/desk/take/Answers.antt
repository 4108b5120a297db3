use Rattle.std.proofs.Common.{ap}
use Rattle.wk_readers.specs.Readers.{ReaderSeen}
use Rattle.wk_session.proofs.desk.take.Goals as goal

pub returns-clause-taken : goal.returns-clause-taken
returns-clause-taken g c = record {
  pass = ap (λ (r : ReaderSeen). r.pass) c.enter-held.ensures.pass;
  start = c.enter-held.ensures.start;
  seen = c.enter-held.ensures.seen;
  own = c.enter-held.ensures.own;
  still_open = c.enter-held.ensures.still_open;
  run = c.facts.ensures.run;
}

pub returns-clause-keeper : goal.returns-clause-keeper
returns-clause-keeper g c = record { whole = c.facts.ensures.whole; failed = c.facts.ensures.failed }
