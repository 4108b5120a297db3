use Rattle.std.proofs.Common.{◌≡◌, Some, refl, subst, ap, ◌∙◌}
use Rattle.wk_wiki_rules.specs.Jobs.{page_held_by}
use Rattle.wk_wiki_rules.specs.Events.{Back}
use Rattle.wk_life_laws.specs.Next.{IsNext}
use Rattle.wk_core.specs.Seen.{WikiSeen}
use Rattle.wk_core.proofs.CacheFacts.{lasting-next}
use Rattle.wk_core.proofs.WikiSteps.{told-same}
use Rattle.wk_core.proofs.RefreshFacts.{back-tables}
use Rattle.wk_core.proofs.wiki.Wiki.give_back.Goals as goal

pub invariant_of-self : goal.invariant_of-self
invariant_of-self g c =
    let holds : page_held_by c.self.inside.life.life.state.jobs c.args.ticket.ticket ≡ Some c.requires.out.page =
    ap (λ (w : WikiSeen g.row.K.Denot). page_held_by w.state.jobs c.args.ticket.ticket) c.self.view_is ∙ c.requires.out.held in
    let made = subst (λ n. IsNext c.self.inside.life.life (Back n) c.give_back.new.self.life) c.let_go.ensures c.give_back.ensures in
    let tables = back-tables c.self.inside.life.life c.facts.ensures c.args.ticket.ticket c.requires.out.page holds c.give_back.new.self.life made in
    record {
      tables = told-same (g.K.Keeper.told c.self.inside.keeper) (g.K.Keeper.told c.self.inside.keeper) c.self.inside.life.life.state c.give_back.new.self.life.state refl tables c.self.invariant.tables;
      cache = lasting-next c.self.inside.life.life c.give_back.new.self.life (Back c.args.ticket.ticket) c.self.inside.cache.entries made c.self.invariant.cache;
    }
