use Rattle.wk_readers.proofs.ReaderLaws.{right-behind}
use Rattle.wk_readers.proofs.reader.Reader.reach.Goals as goal

pub invariant_of-self : goal.invariant_of-self
invariant_of-self g c = record { right = right-behind c.self.inside.pass c.self.inside.cache c.args.self.now c.self.view_is c.self.invariant.right c.args.shared.now c.look-point.new.pass c.requires.turn c.look-point.ensures.looked.1.read; knows = tt }

pub invariant_of-self-2 : goal.invariant_of-self-2
invariant_of-self-2 g c = record { right = right-behind c.self.inside.pass c.self.inside.cache c.args.self.now c.self.view_is c.self.invariant.right c.args.shared.now c.look-point.new.pass c.requires.turn c.look-point.ensures.looked.1.read; knows = tt }
