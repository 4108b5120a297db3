use Rattle.std.proofs.Common.{length, ap, sym, ◌∙◌, subst}
use Rattle.wk_wiki_rules.specs.Claims.{ClaimOutcome}
use Rattle.wk_core.specs.Answers.{event_of_answer}
use Rattle.wk_core.specs.Steps.{HasMade}
use Rattle.wk_script_steps.specs.Outcomes.{finish_reply}
use Rattle.wk_script_steps.proofs.ByOutcomes.{finish-told}
use Rattle.wk_script_steps.proofs.Calls.{shows-at}
use Rattle.wk_script_steps.proofs.Reading.{draft-honest}
use Rattle.wk_script_steps.proofs.refreshes.bring_in.Goals as goal

pub finish-finished-requires-clause-draft : goal.finish-finished-requires-clause-draft
finish-finished-requires-clause-draft g c = record {
  page = c.requires.page ∙ sym (ap (λ (t : ClaimOutcome). t.title) c.into_ticket.ensures);
  own_text = c.requires.own_text;
  honest = draft-honest c.args.wiki.now.state c.args.ticket c.args.draft.expanded c.args.draft.reads c.requires.fit c.requires.drafted;
}

pub returns : goal.returns
returns g c = λ drafts holds found.
    let old = c.args.wiki.now in
    let new = c.finish-finished.new.self in
    let finished = c.finish-finished.result in
    let mine = ap (λ (t : ClaimOutcome). t.ticket) c.into_ticket.ensures in
    let made : HasMade old new (event_of_answer c.args.ticket.ticket finished) = subst (λ n. HasMade old new (event_of_answer n finished)) mine c.finish-finished.ensures.event in
    finish-told g.K.Keeper.told g.K.Keeper.faults old new drafts c.facts.ensures.run holds c.finish-finished.ensures.keeper c.told_finish.result c.args.ticket found
    c.args.draft.expanded c.args.draft.reads c.requires.drafted finished made c.finish-finished.ensures.stale c.finish-finished.ensures.fault
    (shows-at c.point.result (length new.journal) (finish_reply finished) c.told_finish.result c.point.ensures c.told_finish.ensures)
