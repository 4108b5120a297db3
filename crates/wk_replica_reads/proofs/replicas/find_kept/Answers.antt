use Rattle.std.proofs.Common.{◌≡◌, None, subst, sym}
use Rattle.std.specs.Prelude.{IfSome}
use Rattle.wk_text_rules.specs.Titles.{PageTitle}
use Rattle.wk_life_laws.specs.Caches.{IsLastingEntry}
use Rattle.wk_cache.specs.Entries.{entry_kept}
use Rattle.wk_cache.specs.declared.kept.Kept.{Kept}
use Rattle.wk_replica.specs.Replicas.{ReplicaSeen}
use Rattle.wk_replica_reads.specs.Looks.{IsReadIn}
use Rattle.wk_replica_reads.proofs.replicas.find_kept.Goals as goal

pub current_of-requires-clause-lasting : goal.current_of-requires-clause-lasting
current_of-requires-clause-lasting c =
    let replica = c.args.replica.now in
    let is = subst (λ f. IfSome f (λ (k : Kept). (k.draft.page ≡ c.args.title.now) × IsLastingEntry replica.state (entry_kept k))) c.in-Some.is c.in-Ok.ensures.kept in
    subst (λ (r : ReplicaSeen). IsLastingEntry r.state (entry_kept c.in-Some.kept)) (sym c.in-Ok.ensures.same) is.1

pub returns-clause-read : goal.returns-clause-read
returns-clause-read c =
    let replica = c.args.replica.now in
    let is = subst (λ f. IfSome f (λ (k : Kept). (k.draft.page ≡ c.args.title.now) × IsLastingEntry replica.state (entry_kept k))) c.in-Some.is c.in-Ok.ensures.kept in
    let here = subst (λ (r : ReplicaSeen). IfSome c.current_of.result (IsReadIn r.start.wiki r.journal r.state c.in-Some.kept.draft.page None)) c.in-Ok.ensures.same c.current_of.ensures.read in
    subst (λ (t : PageTitle). IfSome c.current_of.result (IsReadIn replica.start.wiki replica.journal replica.state t None)) is.0 here
