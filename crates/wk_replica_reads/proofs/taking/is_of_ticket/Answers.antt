use Rattle.std.proofs.Common.{◌∙◌, sym}
use Rattle.wk_core.specs.Tickets.{ticket_out}
use Rattle.wk_replica_reads.proofs.TakeLaws.{ticket-page}
use Rattle.wk_replica_reads.proofs.taking.is_of_ticket.Goals as goal

pub returns-in-Ok-Some : goal.returns-in-Ok-Some
returns-in-Ok-Some c = λ is.
    ticket-page (ticket_out c.args.wiki.now.state c.args.ticket) c.in-Ok-Some.out c.args.draft.now.page c.page.result.now c.title.result.now
    (rw c.in-Ok-Some.field-0-is at c.in-Ok-Some.ensures.given) c.page.ensures.value c.title.ensures (sym c.eq-same.ensures ∙ is)
