use Rattle.std.proofs.Common.{◌+◌, map, not, sym, ap, ◌∙◌, subst}
use Rattle.wk_feed_lines.specs.Said.{event_line_of, row_of}
use Rattle.wk_replica.specs.Inside.{seen_of}
use Rattle.wk_replica.specs.Replicas.{ReplicaSeen, lines_taken}
use Rattle.wk_replica.specs.Taken.{IsTaken}
use Rattle.wk_replica.proofs.ToldFacts.{event-told}
use Rattle.wk_replica.proofs.replica.Replica.take_event.Goals as goal

pub returns : goal.returns
returns c =
    let r = c.self.inside in
    let rows = map row_of r.rows.items in
    let going = ap (λ (seen : ReplicaSeen). seen.stopped) c.self.view_is ∙ c.requires.going in
    let counted = c.requires.number ∙ ap (λ (seen : ReplicaSeen). lines_taken seen + 1) (sym c.self.view_is) in
    subst (λ (seen : ReplicaSeen). IsTaken seen (event_line_of c.args.event) (seen_of r.line rows c.told.new.stopped c.follow-followed.new.wiki) c.told.result) c.self.view_is
    (event-told r.line c.args.number rows r.stopped c.told.new.stopped r.wiki c.follow-followed.new.wiki c.args.event c.follow-followed.result c.told.result
    (c.is_none.ensures ∙ ap not c.if-is_none.false) going counted c.facts.ensures.run c.follow-followed.ensures c.told.ensures)
