use Rattle.std.proofs.Common.{◌≡◌, Some, subst}
use Rattle.wk_wiki_rules.specs.Starts.{Start}
use Rattle.wk_readers.specs.Readers.{IsIdleAt, KnowsIdle, ReaderSeen}
use Rattle.wk_readers.proofs.reader.Reader.told_idle.Goals as goal

pub invariant_of-self : goal.invariant_of-self
invariant_of-self g c = record { right = c.self.invariant.right; knows = tt }

pub returns-clause-idle : goal.returns-clause-idle
returns-clause-idle g c = λ is.
    subst (λ (r : ReaderSeen). (start : Start) → r.pass.start ≡ Some start → IsIdleAt start r.pass) c.self.view_is (subst (KnowsIdle c.self.inside.pass) is c.self.invariant.knows)
