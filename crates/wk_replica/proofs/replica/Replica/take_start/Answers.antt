use Rattle.std.proofs.Common.{◌≡◌, ◌+◌, [], List, Option, Some, map, sym, ap, ◌∙◌, subst}
use Rattle.wk_core.specs.Seen.{WikiSeen}
use Rattle.wk_keeper.specs.declared.mem_keeper.MemKeeper.{MemKeeper}
use Rattle.wk_feed_rules.specs.Lines.{start}
use Rattle.wk_feed_lines.specs.Said.{row_of}
use Rattle.wk_feed_lines.specs.declared.line.FeedRow.{FeedRow}
use Rattle.wk_replica.specs.Inside.{seen_of}
use Rattle.wk_replica.specs.Loaded.{IsLoaded}
use Rattle.wk_replica.specs.Replicas.{ReplicaSeen, lines_taken}
use Rattle.wk_replica.specs.Taken.{HasTaken}
use Rattle.wk_replica.proofs.ToldFacts.{start-told}
use Rattle.wk_replica.proofs.replica.Replica.take_start.Goals as goal

pub returns-in-Ok-Some : goal.returns-in-Ok-Some
returns-in-Ok-Some c =
    let r = c.self.inside in
    let rows = map row_of r.rows.items in
    let wiki = c.put.new.place in
    let going = ap (λ (seen : ReplicaSeen). seen.stopped) c.self.view_is ∙ c.requires.going in
    let counted = c.requires.number ∙ ap (λ (seen : ReplicaSeen). lines_taken seen + 1) (sym c.self.view_is) in
    let opened : IsLoaded (map row_of c.deref.result.now) (Some c.in-Ok-Some.wiki) =
    subst (λ (o : Option (WikiSeen MemKeeper)). IsLoaded (map row_of c.deref.result.now) o) c.in-Ok-Some.field-0-is c.in-Ok-Some.ensures in
    let loaded : IsLoaded rows (Some wiki) =
    subst (λ (w : WikiSeen MemKeeper). IsLoaded rows (Some w)) (sym c.put.ensures)
    (subst (λ (l : List FeedRow). IsLoaded (map row_of l) (Some c.in-Ok-Some.wiki)) c.deref.ensures.value opened) in
    let none : c.put-in-Ok-Some.new.place.items ≡ [] = ap (λ v. v.items) c.put-in-Ok-Some.ensures ∙ c.new.ensures.items in
    subst (λ (seen : ReplicaSeen). HasTaken seen start (seen_of (Some c.args.number) (map row_of c.put-in-Ok-Some.new.place.items) r.stopped wiki)) c.self.view_is
    (subst (λ (l : List FeedRow). HasTaken (seen_of r.line rows r.stopped r.wiki) start (seen_of (Some c.args.number) (map row_of l) r.stopped wiki)) (sym none)
    (start-told r.line c.args.number rows r.stopped r.wiki wiki (sym c.is_some.ensures ∙ c.if-is_some.false) going counted loaded))
