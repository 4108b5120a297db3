use Rattle.std.proofs.Common.{subst, sym}
use Rattle.wk_life_laws.specs.Caches.{IsLastingEntry}
use Rattle.wk_cache.specs.Entries.{entry_kept}
use Rattle.wk_expand.specs.Drafts.{DraftShown}
use Rattle.wk_replica_reads.proofs.ReadLaws.{read-lasting}
use Rattle.wk_replica_reads.proofs.replicas.keep.Goals as goal

pub keep-refused-requires-clause-lasting : goal.keep-refused-requires-clause-lasting
keep-refused-requires-clause-lasting c =
    let replica = c.args.replica.now in
    let read = c.args.read.now in
    subst (λ (d : DraftShown). IsLastingEntry replica.state (entry_kept (record { draft = d; point = read.point; uses = 0; id = read.id }))) (sym c.in-Ok.ensures)
    (read-lasting replica.start.wiki replica.journal replica.state c.requires.read.0 read c.requires.read.1)
