use Rattle.wk_title.proofs.NormalLemmas.{short_key}
use Rattle.wk_title.proofs.title.Title.key.Goals as goal

pub returns-clause-short : goal.returns-clause-short
returns-clause-short c = rw (← c.self.view_is) (short_key _ c.self.invariant)

pub returns-clause-normal : goal.returns-clause-normal
returns-clause-normal c = rw (← c.self.view_is) c.self.invariant
