use Rattle.std.proofs.Common.{subst}
use Rattle.wk_shared.specs.Looks.{KeepsTickets}
use Rattle.wk_readers.proofs.ReaderLaws.{right-behind}
use Rattle.wk_readers.proofs.reader.Reader.transform.Goals as goal
use Rattle.wk_readers.specs.Readers.{ReaderSeen}

pub invariant_of-self : goal.invariant_of-self
invariant_of-self g c = record { right = right-behind c.self.inside.pass c.self.inside.cache c.args.self.now c.self.view_is c.self.invariant.right c.args.shared.now c.substituted_apart.new.pass c.requires.turn c.substituted_apart.ensures.pass; knows = tt }

pub returns-clause-tickets : goal.returns-clause-tickets
returns-clause-tickets g c =
    subst (λ (r : ReaderSeen). KeepsTickets c.args.shared.now.start r.pass c.substituted_apart.new.pass) c.self.view_is c.substituted_apart.ensures.tickets
