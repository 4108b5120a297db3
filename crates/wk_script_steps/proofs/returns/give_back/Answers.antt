use Rattle.std.proofs.Common.{◌≡◌, length, ap, ◌∙◌, subst}
use Rattle.wk_wiki_rules.specs.Events.{Back}
use Rattle.wk_wiki_rules.specs.Claims.{ClaimOutcome}
use Rattle.wk_answer_rules.specs.Values.{reply_beside}
use Rattle.wk_core.specs.Steps.{HasMade}
use Rattle.wk_script_rules.specs.Replies.{giveback_entries, line_error, notticket}
use Rattle.wk_script_rules.specs.ScriptLines.{giveback_line}
use Rattle.wk_script_steps.specs.Seen.{script_of}
use Rattle.wk_script_steps.proofs.Calls.{answers-still, shows-at, title-shown}
use Rattle.wk_script_steps.proofs.Finishing.{gives-back}
use Rattle.wk_script_steps.proofs.LineRuns.{giveback-no-ticket}
use Rattle.wk_script_steps.proofs.ReadLines.{at-place}
use Rattle.wk_script_steps.proofs.returns.give_back.Goals as goal

pub returns-in_default : goal.returns-in_default
returns-in_default g c =
    let wiki = c.args.wiki.now in
    let drafts = c.args.tickets.now.items in
    let none = rw c.as_slice.ensures.value at c.in_default.ensures.none in
    answers-still g.K.Keeper.told g.K.Keeper.faults 0 (giveback_line c.args.number) wiki drafts drafts (line_error notticket (length wiki.journal)) c.no_ticket.result
    (giveback-no-ticket wiki.start.limits (script_of wiki drafts) 0 c.args.number none) c.requires.holds
    (shows-at c.point.result (length wiki.journal) (line_error notticket) c.no_ticket.result c.point.ensures c.no_ticket.ensures)

pub returns-in-Ok : goal.returns-in-Ok
returns-in-Ok g c =
    let old = c.args.wiki.now in
    let new = c.give_back.new.self in
    let drafts = c.args.tickets.now.items in
    let draft = c.remove-open.result in
    let is = at-place drafts c.as_slice.result.now c.args.number c.in-Some.at draft c.as_slice.ensures.value c.in-Some.ensures.within c.in-Some.ensures.found c.remove-open.ensures.value in
    let mine = ap (λ (t : ClaimOutcome). t.ticket) c.into_ticket.ensures in
    let made : HasMade old new (Back draft.ticket) = subst (λ n. HasMade old new (Back n)) mine c.give_back.ensures.event in
    let title : c.in-Ok.title ≡ draft.title = c.in-Ok.ensures ∙ c.title.ensures in
    gives-back g.K.Keeper.told g.K.Keeper.faults old new drafts c.args.number c.in-Some.at draft c.given_back.result c.requires.holds is.1 is.0 c.remove-open.new.self.items
    c.facts.ensures.run c.give_back.ensures.keeper made c.remove-open.ensures.items
    (shows-at c.point-in-Ok.result (length new.journal) (reply_beside (giveback_entries draft.title)) c.given_back.result c.point-in-Ok.ensures
    (title-shown c.point-in-Ok.result c.in-Ok.title draft.title c.given_back.result title c.given_back.ensures))

pub returns-in-Err : goal.returns-in-Err
returns-in-Err g c =
    let old = c.args.wiki.now in
    let new = c.give_back.new.self in
    let drafts = c.args.tickets.now.items in
    let draft = c.remove-open.result in
    let is = at-place drafts c.as_slice.result.now c.args.number c.in-Some.at draft c.as_slice.ensures.value c.in-Some.ensures.within c.in-Some.ensures.found c.remove-open.ensures.value in
    let mine = ap (λ (t : ClaimOutcome). t.ticket) c.into_ticket.ensures in
    let made : HasMade old new (Back draft.ticket) = subst (λ n. HasMade old new (Back n)) mine c.give_back.ensures.event in
    gives-back g.K.Keeper.told g.K.Keeper.faults old new drafts c.args.number c.in-Some.at draft _ c.requires.holds is.1 is.0 c.remove-open.new.self.items
    c.facts.ensures.run c.give_back.ensures.keeper made c.remove-open.ensures.items tt
