use Rattle.std.proofs.Common.{◌≡◌, Err, ap, ◌∙◌, subst}
use Rattle.wk_wiki_rules.specs.Events.{Back}
use Rattle.wk_life_laws.specs.Lives.{Life}
use Rattle.wk_life_laws.specs.Next.{IsNext}
use Rattle.wk_keeper.specs.declared.keeper.KeeperRefusal.TheVariants.{Failed}
use Rattle.wk_core.specs.Answers.{refused_answer}
use Rattle.wk_core.proofs.RefreshFacts.{back-tables}
use Rattle.wk_core.proofs.WikiSteps.{told-same}
use Rattle.wk_core.proofs.refreshes.finish_current.Goals as goal

pub returns-in-Err-clause-told : goal.returns-in-Err-clause-told
returns-in-Err-clause-told g c =
    let life = c.args.life.now.life in
    let made = subst (λ (l : Life). IsNext l (Back c.args.ticket) c.give_back.new.self.life) c.in-Err.ensures.refused c.give_back.ensures in
    let tables = back-tables life c.facts.ensures c.args.ticket c.requires.held.0 c.requires.held.1 c.give_back.new.self.life made in
    told-same (g.K.Keeper.told c.args.keeper.now) (g.K.Keeper.told c.store_rows.new.keeper) life.state c.give_back.new.self.life.state c.in-Err.ensures.kept tables c.requires.told

pub returns-in-Err-clause-no_fault : goal.returns-in-Err-clause-no_fault
returns-in-Err-clause-no_fault g c = λ other. c.in-Err.ensures.no_fault (λ e.
    let is : Err c.in-Err.refusal ≡ Err Failed = e in
    let failed : c.in-Err.refusal ≡ Failed = cc in
    other (c.refused_answer.ensures ∙ ap refused_answer failed))
