use Rattle.wk_readers.proofs.ReaderLaws.{right-steps}
use Rattle.wk_readers.proofs.refreshes.refresh_one.Goals as goal

pub invariant_of-reader : goal.invariant_of-reader
invariant_of-reader g c = record { right = right-steps c.reader.inside.pass c.reader.inside.cache c.args.reader.now c.reader.view_is c.reader.invariant.right c.args.shared.now c.refresh_with.new.pass c.requires.turn c.refresh_with.ensures.pass; knows = tt }
