use Rattle.std.proofs.Common.{set, length, ap, refl, ◌∙◌}
use Rattle.wk_script_rules.specs.Replies.{line_error, needsread, notticket}
use Rattle.wk_script_rules.specs.ScriptLines.{finish_line}
use Rattle.wk_script_rules.specs.WikiScripts.{drafted}
use Rattle.wk_script_steps.specs.Seen.{script_of}
use Rattle.wk_script_steps.proofs.Calls.{answers-same, answers-still, shows-at}
use Rattle.wk_script_steps.proofs.Finishing.{comes-in}
use Rattle.wk_script_steps.proofs.LineRuns.{finish-no-ticket, read-missing}
use Rattle.wk_script_steps.proofs.Reading.{need-of}
use Rattle.wk_script_steps.proofs.ReadLines.{at-place, same-set}
use Rattle.wk_script_steps.proofs.refreshes.finish.Goals as goal

pub returns-in_default : goal.returns-in_default
returns-in_default g c =
    let wiki = c.args.wiki.now in
    let drafts = c.args.tickets.now.items in
    let none = rw c.as_slice.ensures.value at c.in_default.ensures.none in
    answers-still g.K.Keeper.told g.K.Keeper.faults 0 (finish_line c.args.number) wiki drafts drafts (line_error notticket (length wiki.journal)) c.no_ticket.result
    (finish-no-ticket wiki.start.limits (script_of wiki drafts) 0 c.args.number none) c.requires.holds
    (shows-at c.point.result (length wiki.journal) (line_error notticket) c.no_ticket.result c.point.ensures c.no_ticket.ensures)

pub returns-in-Ok-Done : goal.returns-in-Ok-Done
returns-in-Ok-Done g c =
    let drafts = c.args.tickets.now.items in
    let draft = c.index_mut-ticket.result.now in
    let is = at-place drafts c.as_slice.result.now c.args.number c.in-Some.at draft c.as_slice.ensures.value c.in-Some.ensures.within c.in-Some.ensures.found c.index_mut-ticket.ensures.value in
    comes-in g.K.Keeper.told g.K.Keeper.faults c.args.wiki.now c.bring_in.new.wiki drafts c.args.number c.in-Some.at draft c.bring_in.result c.requires.holds is.1 is.0
    c.step.new.self c.remove.result c.remove.new.self.items c.step.ensures.same c.remove.ensures.value c.remove.ensures.items c.bring_in.ensures

pub returns-in-Ok-Needs : goal.returns-in-Ok-Needs
returns-in-Ok-Needs g c =
    let wiki = c.args.wiki.now in
    let drafts = c.args.tickets.now.items in
    let draft = c.index_mut-ticket.result.now in
    let is = at-place drafts c.as_slice.result.now c.args.number c.in-Some.at draft c.as_slice.ensures.value c.in-Some.ensures.within c.in-Some.ensures.found c.index_mut-ticket.ensures.value in
    let step = rw c.in-Ok-Needs.field-0-is at c.in-Ok-Needs.ensures.step in
    let needs = need-of (drafted draft) c.in-Ok-Needs.title c.in-Ok-Needs.kind step in
    answers-same g.K.Keeper.told g.K.Keeper.faults 0 (finish_line c.args.number) wiki wiki drafts (set drafts c.in-Some.at c.step.new.self) c.needs_read.result c.requires.holds refl
    (ap (set drafts c.in-Some.at) c.step.ensures.same ∙ same-set drafts c.in-Some.at draft is.0) (line_error (needsread c.in-Ok-Needs.title c.in-Ok-Needs.kind) (length wiki.journal))
    (read-missing wiki.start.limits (script_of wiki drafts) 0 c.args.number draft c.in-Ok-Needs.title c.in-Ok-Needs.kind needs.0 is.1 needs.1)
    (shows-at c.point-in-Ok-Needs.result (length wiki.journal) (line_error (needsread c.in-Ok-Needs.title c.in-Ok-Needs.kind)) c.needs_read.result c.point-in-Ok-Needs.ensures c.needs_read.ensures)

pub returns-in-Err : goal.returns-in-Err
returns-in-Err g c =
    let drafts = c.args.tickets.now.items in
    let draft = c.index_mut-ticket.result.now in
    let is = at-place drafts c.as_slice.result.now c.args.number c.in-Some.at draft c.as_slice.ensures.value c.in-Some.ensures.within c.in-Some.ensures.found c.index_mut-ticket.ensures.value in
    comes-in g.K.Keeper.told g.K.Keeper.faults c.args.wiki.now c.refuse.new.wiki drafts c.args.number c.in-Some.at draft c.refuse.result c.requires.holds is.1 is.0
    c.step.new.self c.remove-in-Err.result c.remove-in-Err.new.self.items c.step.ensures.same c.remove-in-Err.ensures.value c.remove-in-Err.ensures.items c.refuse.ensures
