use Rattle.std.proofs.Common.{refl, subst, sym, ap, ◌∙◌}
use Rattle.wk_wiki_rules.specs.Jobs.{first_queued}
use Rattle.wk_wiki_rules.specs.States.{title_at}
use Rattle.wk_wiki_rules.specs.Events.{Claim}
use Rattle.wk_wiki_rules.specs.Tables.{tables_of}
use Rattle.wk_wiki_rules.specs.Claims.{ClaimOutcome}
use Rattle.wk_core.specs.Tickets.{IsOut}
use Rattle.wk_core.proofs.TicketFacts.{claimed-out, titled-page}
use Rattle.wk_life_laws.specs.Lives.{Life}
use Rattle.wk_core.proofs.CacheFacts.{lasting-next, lasting-same}
use Rattle.wk_core.proofs.WikiSteps.{told-same}
use Rattle.wk_core.proofs.RefreshFacts.{claim-tables}
use Rattle.wk_core.proofs.wiki.Wiki.claim.Goals as goal

pub invariant_of-self-2 : goal.invariant_of-self-2
invariant_of-self-2 g c =
    let tables = claim-tables c.make_room.new.self.life c.claim-number.new.self.life c.claim-number.ensures.next ∙ ap (λ (l : Life). tables_of l.state) c.in_ok-make_room.ensures.life in
    let same = lasting-same c.self.inside.life.life.state c.make_room.new.self.life.state c.self.inside.cache.entries (ap (λ (l : Life). l.state) c.in_ok-make_room.ensures.life) c.self.invariant.cache in
    record {
      tables = told-same (g.K.Keeper.told c.self.inside.keeper) (g.K.Keeper.told c.self.inside.keeper) c.self.inside.life.life.state c.claim-number.new.self.life.state refl tables c.self.invariant.tables;
      cache = lasting-next c.make_room.new.self.life c.claim-number.new.self.life Claim c.self.inside.cache.entries c.claim-number.ensures.next same;
    }

pub returns-clause-out : goal.returns-clause-out
returns-clause-out g c =
    let life = c.make_room.new.self.life in
    let told = sym c.in-Some.is ∙ c.in_ok-title.ensures in
    let page = titled-page (first_queued c.self.inside.life.life.state.jobs) (title_at c.self.inside.life.life.state.history) c.in-Some.title told in
    let first = ap (λ (l : Life). first_queued l.state.jobs) c.in_ok-make_room.ensures.life ∙ page.1.0 in
    let titled = page.1.1 ∙ ap (λ (l : Life). title_at l.state.history page.0) (sym c.in_ok-make_room.ensures.life) in
    let out = claimed-out life c.claim-number.new.self.life page.0 c.claim-number.result c.in-Some.title c.facts.ensures c.claim-number.ensures.next first c.claim-number.ensures.ticket titled in
    subst (λ (t : ClaimOutcome). IsOut c.claim-number.new.self.life.state t) (sym c.new.ensures) out
