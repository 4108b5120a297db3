use Rattle.wk_readers.proofs.ReaderLaws.{right-behind}
use Rattle.wk_readers.proofs.reader.Reader.draft.Goals as goal

pub invariant_of-self : goal.invariant_of-self
invariant_of-self g c = record { right = right-behind c.self.inside.pass c.self.inside.cache c.args.self.now c.self.view_is c.self.invariant.right c.args.shared.now c.drafted.new.pass c.requires.turn c.drafted.ensures.pass; knows = tt }
