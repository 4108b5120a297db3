use Rattle.wk_readers.proofs.ReaderLaws.{facts-shown}
use Rattle.wk_readers.proofs.reader.Reader.facts.Goals as goal

pub returns : goal.returns
returns g c = facts-shown c.self.inside.pass c.self.inside.cache c.args.self.now c.self.view_is c.self.invariant.right
