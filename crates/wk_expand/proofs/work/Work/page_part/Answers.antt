use Rattle.std.proofs.Common.{◌≡◌, [], Err, Result, refl, sym, ap, subst, ◌∙◌}
use Rattle.std.proofs.lemmas.Result.{IfOk-weaker}
use Rattle.wk_tree.specs.Parsed.{node_with}
use Rattle.wk_view_rules.specs.Expand.{inclusion}
use Rattle.wk_view_rules.specs.Expansions.{Expansion, Output, ◌>>=◌}
use Rattle.wk_expand.specs.Running.{Keeps}
use Rattle.wk_expand.specs.Stack.{IsHere, IsNext, LeadsOn, LeadsTo, Place, parts_at}
use Rattle.wk_expand.specs.State.{current}
use Rattle.wk_expand.specs.Work.{IsGoing, IsTurn, place_of}
use Rattle.wk_expand.specs.declared.stack.Next.{Next}
use Rattle.wk_expand.specs.declared.stack.Next.TheVariants.{Expands}
use Rattle.wk_expand.specs.declared.stack.Waiting.TheVariants.{Title}
use Rattle.wk_expand.specs.declared.state.Expander.{Expander}
use Rattle.wk_expand.specs.declared.state.Stop.{Stop}
use Rattle.wk_expand.specs.declared.work.Work.{Work}
use Rattle.wk_expand.proofs.LeadLaws.{node-here}
use Rattle.wk_expand.proofs.PagePartLaws.{going-paged}
use Rattle.wk_expand.proofs.PartLaws.{some_of}
use Rattle.wk_expand.proofs.WorkLaws.{going-leads, leads-turn}
use Rattle.wk_expand.proofs.work.Work.page_part.Goals as goal

pub page_called-requires : goal.page_called-requires
page_called-requires c =
    let w = c.args.self.now in
    let g = c.requires.there.1 in
    let p : Place = place_of g.spot in
    some_of (node_with (current w.expander) c.args.node) p.node (node-here w.expander c.args.node p (record { is = g.is_place; home = g.rest_is.within }))

pub lead-requires : goal.lead-requires
lead-requires c =
    let w = c.args.self.now in
    let seen = c.args.seen.now in
    let id = c.args.node in
    let u : Work = record w { expander = c.page_called.new.self } in
    let g = going-paged w id w.listing c.args.list c.args.page c.requires.there.0 c.requires.page c.requires.there.1 in
    let p : Place = place_of g.spot in
    let whole = inclusion p.inner p.viewed p.frame c.args.page (parts_at p) in
    let here : IsHere w.expander id p = record { is = g.is_place; home = g.rest_is.home } in
    let leads : LeadsTo seen p whole w.expander c.in-Ok.next u.expander =
    subst (λ (r : Result Next Stop). LeadsOn seen p whole w.expander r u.expander) c.in-Ok.is (c.page_called.ensures.leads p here)
    in
    (leads.rest >>= g.one, going-leads seen w u id w.listing c.in-Ok.next g.spot whole g.one g.list g.is_place g.continues refl leads)

pub returns-in-Ok : goal.returns-in-Ok
returns-in-Ok c =
    let w = c.args.self.now in
    let seen = c.args.seen.now in
    let id = c.args.node in
    let u : Work = record w { expander = c.page_called.new.self } in
    IfOk-weaker c.lead.result _ _ (λ turn follows e n.
    let g = going-paged w id w.listing c.args.list c.args.page e c.requires.page n in
    let p : Place = place_of g.spot in
    let whole = inclusion p.inner p.viewed p.frame c.args.page (parts_at p) in
    let here : IsHere w.expander id p = record { is = g.is_place; home = g.rest_is.home } in
    let leads : LeadsTo seen p whole w.expander c.in-Ok.next u.expander =
    subst (λ (r : Result Next Stop). LeadsOn seen p whole w.expander r u.expander) c.in-Ok.is (c.page_called.ensures.leads p here)
    in
    leads-turn seen e w.expander u c.lead.new.self id w.listing c.in-Ok.next g.spot whole g.one g.list turn
    (g.is ∙ ap (λ (x : Expansion Output). x >>= g.one) g.rest_is.is) g.is_place g.continues leads (λ f q. follows seen f q)) c.lead.ensures

pub name_part-requires : goal.name_part-requires
name_part-requires c =
    let w = c.args.self.now in
    let s = c.page_called.new.self in
    let kept = subst (λ (r : Result Next Stop). Keeps r w.expander s) c.in-Err-Needs.is c.page_called.ensures.keeps in
    let same : s ≡ w.expander = subst (λ (stop : Stop). Keeps {X = Next} (Err stop) w.expander s) c.in-Err-Needs.field-0-is kept in
    (c.requires.there.0, subst (λ (x : Expander). IsGoing (record w { expander = x }) c.args.node w.listing (λ p rest. IsNext p x (Expands Title c.args.list []) rest) c.requires.there.0) (sym same) c.requires.there.1)

pub returns-in-Err-Needs : goal.returns-in-Err-Needs
returns-in-Err-Needs c =
    let w = c.args.self.now in
    let s = c.page_called.new.self in
    let kept = subst (λ (r : Result Next Stop). Keeps r w.expander s) c.in-Err-Needs.is c.page_called.ensures.keeps in
    let same : s ≡ w.expander = subst (λ (stop : Stop). Keeps {X = Next} (Err stop) w.expander s) c.in-Err-Needs.field-0-is kept in
    IfOk-weaker c.name_part.result _ _ (λ turn follows e g.
    subst (λ (x : Expander). IsTurn c.args.seen.now e x turn c.name_part.new.self) same
    (follows e (subst (λ (x : Expander). IsGoing (record w { expander = x }) c.args.node w.listing (λ p rest. IsNext p x (Expands Title c.args.list []) rest) e) (sym same) g))) c.name_part.ensures
