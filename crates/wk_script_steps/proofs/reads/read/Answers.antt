use Rattle.std.proofs.Common.{set, length, ap, refl, ◌∙◌}
use Rattle.wk_answer_rules.specs.ApiErrors.{api_error, nomemory}
use Rattle.wk_script_rules.specs.Replies.{line_error, notticket}
use Rattle.wk_script_rules.specs.Runs.{read_out_of_memory}
use Rattle.wk_script_rules.specs.ScriptLines.{read_line}
use Rattle.wk_script_steps.specs.Seen.{script_of}
use Rattle.wk_script_steps.proofs.Calls.{answers-still, shows-at, starved-same}
use Rattle.wk_script_steps.proofs.LineRuns.{read-no-ticket}
use Rattle.wk_script_steps.proofs.ReadLines.{at-place, read-told, same-set}
use Rattle.wk_script_steps.proofs.reads.read.Goals as goal

pub returns-in_default : goal.returns-in_default
returns-in_default g c =
    let wiki = c.args.wiki.now in
    let drafts = c.args.tickets.now.items in
    let none = rw c.as_slice.ensures.value at c.in_default.ensures.none in
    answers-still g.K.Keeper.told g.K.Keeper.faults 0 (read_line c.args.number) wiki drafts drafts (line_error notticket (length wiki.journal)) c.no_ticket.result
    (read-no-ticket wiki.start.limits (script_of wiki drafts) 0 c.args.number none) c.requires.holds
    (shows-at c.point.result (length wiki.journal) (line_error notticket) c.no_ticket.result c.point.ensures c.no_ticket.ensures)

pub returns-in-Ok : goal.returns-in-Ok
returns-in-Ok g c =
    let drafts = c.args.tickets.now.items in
    let draft = c.index_mut-ticket.result.now in
    let is = at-place drafts c.as_slice.result.now c.args.number c.in-Some.at draft c.as_slice.ensures.value c.in-Some.ensures.within c.in-Some.ensures.found c.index_mut-ticket.ensures.value in
    read-told g.K.Keeper.told g.K.Keeper.faults c.args.wiki.now c.args.number c.in-Some.at drafts draft c.in-Ok.value c.read_open.new.ticket c.requires.holds is.1 is.0 c.in-Ok.ensures

pub returns-in-Err : goal.returns-in-Err
returns-in-Err g c =
    let wiki = c.args.wiki.now in
    let drafts = c.args.tickets.now.items in
    let draft = c.index_mut-ticket.result.now in
    let is = at-place drafts c.as_slice.result.now c.args.number c.in-Some.at draft c.as_slice.ensures.value c.in-Some.ensures.within c.in-Some.ensures.found c.index_mut-ticket.ensures.value in
    starved-same g.K.Keeper.told g.K.Keeper.faults 0 (read_line c.args.number) wiki wiki drafts (set drafts c.in-Some.at c.read_open.new.ticket) c.no_memory.result c.requires.holds refl
    (ap (set drafts c.in-Some.at) c.in-Err.ensures ∙ same-set drafts c.in-Some.at draft is.0) (read_out_of_memory is.1)
    (shows-at c.point-in-Err.result (length wiki.journal) (api_error nomemory) c.no_memory.result c.point-in-Err.ensures c.no_memory.ensures)
