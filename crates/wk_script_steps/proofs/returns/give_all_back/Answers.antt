use Rattle.std.proofs.Common.{◌≡◌, List, [], ◌∷◌, ap, sym, ◌∙◌, subst}
use Rattle.std.proofs.lemmas.List.{nil_from_length}
use Rattle.wk_wiki_rules.specs.Events.{Back}
use Rattle.wk_wiki_rules.specs.Claims.{ClaimOutcome}
use Rattle.wk_core.specs.Steps.{HasMade}
use Rattle.wk_script_rules.specs.WikiScripts.{TicketDraft}
use Rattle.wk_script_steps.proofs.Returning.{AreLeft, all-left, none-left, one-back}
use Rattle.wk_script_steps.proofs.returns.give_all_back.Goals as goal

pub tickets-init : goal.tickets-init
tickets-init g c = subst (λ (ds : List TicketDraft). AreLeft c.args.wiki.now c.args.wiki.now c.args.tickets.items ds) (sym c.into_iter-left.ensures.rest) (all-left c.args.wiki.now c.args.tickets.items c.requires)

pub tickets-preserved : goal.tickets-preserved
tickets-preserved g c =
    let now = c.tickets.wiki in
    let next = c.give_back.new.self in
    let draft = c.in-Some.open in
    let is : AreLeft c.args.wiki.now now c.args.tickets.items (draft ∷ c.next.new.self.rest.items) =
    subst (λ (ds : List TicketDraft). AreLeft c.args.wiki.now now c.args.tickets.items ds) c.in-Some.ensures.items c.tickets.invariant
    in
    let mine = ap (λ (t : ClaimOutcome). t.ticket) c.into_ticket.ensures in
    let made : HasMade now next (Back draft.ticket) = subst (λ n. HasMade now next (Back n)) mine c.give_back.ensures.event in
    one-back c.args.wiki.now c.args.tickets.items now next draft c.next.new.self.rest.items c.facts.ensures.run is made c.give_back.ensures.keeper

pub returns-clause-script : goal.returns-clause-script
returns-clause-script g c =
    let none : c.tickets.left.rest.items ≡ [] = nil_from_length c.tickets.left.rest.items (sym c.tickets.left.rest.ok.0 ∙ c.in-None.ensures.cases.0) in
    none-left c.args.wiki.now c.args.tickets.items c.tickets.wiki c.requires.rises
    (subst (λ (ds : List TicketDraft). AreLeft c.args.wiki.now c.tickets.wiki c.args.tickets.items ds) none c.tickets.invariant)
