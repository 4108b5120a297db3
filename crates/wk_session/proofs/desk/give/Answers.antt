use Rattle.std.proofs.Common.{ap, ◌∙◌, length}
use Rattle.wk_readers.specs.Readers.{ReaderSeen}
use Rattle.wk_shared.proofs.Journals.{closes-asked}
use Rattle.wk_session.proofs.desk.give.Goals as goal

pub leave-requires-clause-closes : goal.leave-requires-clause-closes
leave-requires-clause-closes g c = closes-asked _ _ c.args.reader.now.pass.own _ c.requires.made.journal c.requires.made.closing

pub returns : goal.returns
returns g c = record {
  pass = ap (λ (r : ReaderSeen). r.pass) c.leave.ensures.pass;
  tells = c.point.ensures ∙ ap (λ (r : ReaderSeen). length r.pass.seen) c.leave.ensures.pass;
  run = c.facts.ensures.run;
}
