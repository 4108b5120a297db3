use Rattle.std.proofs.Common.{subst}
use Rattle.std.specs.Prelude.{IfOk, IfSome}
use Rattle.wk_core.specs.Seen.{WikiSeen}
use Rattle.wk_core.specs.Tickets.{IsOut}
use Rattle.wk_core.proofs.TicketFacts.{tickets-out}
use Rattle.wk_core.proofs.wiki.Wiki.ticket.Goals as goal

pub returns-clause-out : goal.returns-clause-out
returns-clause-out g c =
    subst (λ (w : WikiSeen g.row.K.Denot). IfOk c.ticket.result (λ ticket. IfSome ticket (λ out. IsOut w.state out))) c.self.view_is
    (tickets-out c.self.inside.life.life.state c.args.number c.ticket.result c.ticket.ensures)
