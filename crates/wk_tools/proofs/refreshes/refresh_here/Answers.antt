use Rattle.std.proofs.Common.{◌+◌, ◌∷◌, [], length, arith, rules}
use Rattle.std.proofs.lemmas.Grind.{common_steps}
use Rattle.wk_wiki_rules.specs.Events.{Back, Claim, Done}
use Rattle.wk_tools.specs.Lived.{HasMadeEach}
use Rattle.wk_tools.proofs.RefreshWork.{back-tickets, done-tickets}
use Rattle.wk_tools.proofs.refreshes.refresh_here.Goals as goal

pub returns-in-Done-clause-tickets : goal.returns-in-Done-clause-tickets
returns-in-Done-clause-tickets g c =
    let old = c.args.wiki.now in
    let each : HasMadeEach old c.bring_in.new.wiki (Claim ∷ Done (length old.journal + 1) ∷ []) = first_of (search rules, grind (arith, common_steps)) in
    done-tickets old.start old.journal old.state c.facts.ensures.run c.bring_in.new.wiki.state each.replayed

pub returns-in-StoreFault-clause-tickets : goal.returns-in-StoreFault-clause-tickets
returns-in-StoreFault-clause-tickets g c =
    let old = c.args.wiki.now in
    let each : HasMadeEach old c.bring_in.new.wiki (Claim ∷ Back (length old.journal + 1) ∷ []) = first_of (search rules, grind (arith, common_steps)) in
    back-tickets old.start old.journal old.state c.facts.ensures.run c.bring_in.new.wiki.state each.replayed

pub returns-in-Memory-clause-tickets : goal.returns-in-Memory-clause-tickets
returns-in-Memory-clause-tickets g c =
    let old = c.args.wiki.now in
    let each : HasMadeEach old c.bring_in.new.wiki (Claim ∷ Back (length old.journal + 1) ∷ []) = first_of (search rules, grind (arith, common_steps)) in
    back-tickets old.start old.journal old.state c.facts.ensures.run c.bring_in.new.wiki.state each.replayed
