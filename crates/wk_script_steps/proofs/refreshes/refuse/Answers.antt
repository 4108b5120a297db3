use Rattle.std.proofs.Common.{length, ap, subst}
use Rattle.wk_wiki_rules.specs.Events.{Back}
use Rattle.wk_wiki_rules.specs.Claims.{ClaimOutcome}
use Rattle.wk_answer_rules.specs.ApiErrors.{api_error, nomemory}
use Rattle.wk_core.specs.Steps.{HasMade}
use Rattle.wk_script_steps.proofs.Calls.{goes-same, shows-at, starved-back}
use Rattle.wk_script_steps.proofs.refreshes.refuse.Goals as goal

pub returns : goal.returns
returns g c = λ drafts holds found.
    let old = c.args.wiki.now in
    let new = c.give_back.new.self in
    let mine = ap (λ (t : ClaimOutcome). t.ticket) c.into_ticket.ensures in
    let made : HasMade old new (Back c.args.ticket.ticket) = subst (λ n. HasMade old new (Back n)) mine c.give_back.ensures.event in
    starved-back g.K.Keeper.told g.K.Keeper.faults old new drafts c.args.ticket c.facts.ensures.run holds (goes-same g.K.Keeper.told g.K.Keeper.faults old new c.give_back.ensures.keeper) found c.no_memory.result made
    (shows-at c.point.result (length new.journal) (api_error nomemory) c.no_memory.result c.point.ensures c.no_memory.ensures)
