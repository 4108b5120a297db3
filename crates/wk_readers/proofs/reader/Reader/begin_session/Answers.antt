use Rattle.wk_readers.proofs.reader.Reader.begin_session.Goals as goal

pub invariant_of-self : goal.invariant_of-self
invariant_of-self g c = record { right = c.self.invariant.right; knows = tt }
