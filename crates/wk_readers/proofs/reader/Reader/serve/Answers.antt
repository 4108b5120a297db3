use Rattle.wk_readers.proofs.ReaderLaws.{right-served}
use Rattle.wk_readers.proofs.reader.Reader.serve.Goals as goal

pub invariant_of-self : goal.invariant_of-self
invariant_of-self g c = record { right = right-served c.self.inside.pass c.self.inside.cache c.args.self.now c.self.view_is c.self.invariant.right c.args.title.now c.args.kept c.requires.entry c.requires.few c.set.new.self c.set.ensures; knows = c.self.invariant.knows }
