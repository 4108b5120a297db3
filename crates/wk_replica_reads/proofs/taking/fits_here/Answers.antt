use Rattle.std.proofs.Common.{ap, ◌∙◌}
use Rattle.wk_wiki_rules.specs.States.{State}
use Rattle.wk_core.specs.Tickets.{ticket_out}
use Rattle.wk_life_laws.proofs.Marks.{agrees-now}
use Rattle.wk_read_laws.proofs.PointLaws.{reads-formed, reads-honest}
use Rattle.wk_shared.proofs.LookLaws.{not-false}
use Rattle.wk_replica_reads.proofs.taking.fits_here.Goals as goal

pub returns : goal.returns
returns c = λ is.
    let replica = c.args.replica.now in
    let found = c.found_here-found in
    let reads = c.args.draft.now.reads in
    record {
      page = λ out at. c.is_of_ticket.ensures is out (ap (λ (s : State). ticket_out s c.args.ticket) c.wiki.ensures.state ∙ at);
      current = agrees-now replica.state reads (reads-honest replica.start.wiki replica.journal replica.state c.requires.since.0 reads found.ensures.run c.requires.since.1)
          (reads-formed replica.start.wiki replica.journal c.requires.since.0 reads c.requires.since.1) (found.ensures.current.none_stale (not-false found.result.current c.if-not-found.false));
    }
