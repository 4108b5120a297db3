use Rattle.std.proofs.Common.{◌+◌, map, not, sym, ap, ◌∙◌, subst}
use Rattle.wk_feed_rules.specs.Lines.{done}
use Rattle.wk_feed_lines.specs.Said.{row_of}
use Rattle.wk_feed_lines.specs.declared.line.EventLine.TheVariants.{Done}
use Rattle.wk_replica.specs.Inside.{seen_of}
use Rattle.wk_replica.specs.Replicas.{ReplicaSeen, lines_taken}
use Rattle.wk_replica.specs.Taken.{IsTaken}
use Rattle.wk_replica.proofs.ToldFacts.{event-told}
use Rattle.wk_replica.proofs.replica.Replica.take_done.Goals as goal

pub returns : goal.returns
returns c =
    let r = c.self.inside in
    let rows = map row_of r.rows.items in
    let going = ap (λ (seen : ReplicaSeen). seen.stopped) c.self.view_is ∙ c.requires.going in
    let counted = c.in-Ok.ensures ∙ ap (λ (seen : ReplicaSeen). lines_taken seen + 1) (sym c.self.view_is) in
    subst (λ (seen : ReplicaSeen). IsTaken seen (done c.args.ticket) (seen_of r.line rows c.told.new.stopped c.follow_drafted-followed.new.wiki) c.told.result) c.self.view_is
    (event-told r.line c.in-Ok.number rows r.stopped c.told.new.stopped r.wiki c.follow_drafted-followed.new.wiki (Done c.args.ticket) c.follow_drafted-followed.result c.told.result
    (c.is_none.ensures ∙ ap not c.if-is_none.false) going counted c.facts.ensures.run c.follow_drafted-followed.ensures c.told.ensures)
