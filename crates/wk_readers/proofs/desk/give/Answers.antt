use Rattle.wk_shared.proofs.Journals.{closes-asked}
use Rattle.wk_readers.proofs.desk.give.Goals as goal

pub leave-requires-clause-closes : goal.leave-requires-clause-closes
leave-requires-clause-closes g c = closes-asked _ _ c.args.pass.now.own _ c.requires.made.journal c.requires.made.closing
