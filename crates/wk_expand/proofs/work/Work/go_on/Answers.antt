use Rattle.std.proofs.lemmas.Result.{IfOk-weaker}
use Rattle.std.proofs.Common.{◌≡◌, Err, Result, IsSome, refl, sym, ap, subst}
use Rattle.wk_tree.specs.Parsed.{node_with}
use Rattle.wk_view_rules.specs.Expand.{redirected}
use Rattle.wk_view_rules.specs.Expansions.{Expansion, Output}
use Rattle.wk_expand.specs.Running.{Keeps}
use Rattle.wk_expand.specs.Stack.{IsBinds, IsNext, LeadsOn, Place, parts_at}
use Rattle.wk_expand.specs.State.{current}
use Rattle.wk_expand.specs.Work.{IsGoing, place_of}
use Rattle.wk_expand.specs.declared.stack.Inclusion.{Inclusion}
use Rattle.wk_expand.specs.declared.stack.Next.{Next}
use Rattle.wk_expand.specs.declared.stack.Next.TheVariants.{Goes}
use Rattle.wk_expand.specs.declared.stack.Pending.{Pending}
use Rattle.wk_expand.specs.declared.stack.Pending.TheVariants.{Named, Target, Binds}
use Rattle.wk_expand.specs.declared.state.Expander.{Expander}
use Rattle.wk_expand.specs.declared.state.Stop.{Stop}
use Rattle.wk_expand.specs.declared.work.Work.{Work}
use Rattle.wk_tree.specs.declared.item.NodeId.{NodeId}
use Rattle.wk_expand.proofs.LeadLaws.{node-here}
use Rattle.wk_expand.proofs.PartLaws.{some_of}
use Rattle.wk_expand.proofs.WorkLaws.{going-here, going-needs, going-next, going-turn}
use Rattle.wk_expand.proofs.work.Work.go_on.Goals as goal

going-as : (w : Work) (id : NodeId) (pending found : Pending) (e : Expansion Output) → pending ≡ found → IsGoing w id w.listing (λ p rest. IsNext p w.expander (Goes pending) rest) e → IsGoing w id w.listing (λ p rest. IsNext p w.expander (Goes found) rest) e
going-as w id pending found e is g = subst (λ (x : Pending). IsGoing w id w.listing (λ p rest. IsNext p w.expander (Goes x) rest) e) is g

node-going : (w : Work) (id : NodeId) (pending : Pending) (e : Expansion Output) → IsGoing w id w.listing (λ p rest. IsNext p w.expander (Goes pending) rest) e → IsSome (node_with (current w.expander) id)
node-going w id pending e g = some_of (node_with (current w.expander) id) (place_of g.spot).node (node-here w.expander id (place_of g.spot) (going-here w id w.listing pending e g))

pub named-requires : goal.named-requires
named-requires c =
    (c.requires.0, going-as c.args.self.now c.args.node c.args.pending (Named c.in-Named.name) c.requires.0 c.in-Named.is c.requires.1)

pub returns-in-Named : goal.returns-in-Named
returns-in-Named c =
    IfOk-weaker c.named.result _ _ (λ turn k e g.
    k e (going-as c.args.self.now c.args.node c.args.pending (Named c.in-Named.name) e c.in-Named.is g)) c.named.ensures

pub lead-requires : goal.lead-requires
lead-requires c =
    let w = c.args.self.now in
    let seen = c.args.seen.now in
    let id = c.args.node in
    let pending = Target c.in-Target.title c.in-Target.target in
    let u : Work = record w { expander = c.redirected_page.new.self } in
    let k = going-as w id c.args.pending (pending) c.requires.0 c.in-Target.is c.requires.1 in
    let p : Place = place_of k.spot in
    let rest = redirected p.inner p.viewed p.frame c.in-Target.title c.in-Target.target (parts_at p) in
    let leads = subst (λ (r : Result Next Stop). LeadsOn seen p rest w.expander r u.expander) c.in-Ok.is (c.redirected_page.ensures.leads p (going-here w id w.listing (pending) c.requires.0 k)) in
    going-next seen w u id w.listing (pending) c.in-Ok.next c.requires.0 rest k refl leads

pub returns-in-Ok : goal.returns-in-Ok
returns-in-Ok c =
    let w = c.args.self.now in
    let seen = c.args.seen.now in
    let id = c.args.node in
    let pending = Target c.in-Target.title c.in-Target.target in
    let u : Work = record w { expander = c.redirected_page.new.self } in
    IfOk-weaker c.lead.result _ _ (λ turn follows e g.
    let k = going-as w id c.args.pending (pending) e c.in-Target.is g in
    let p : Place = place_of k.spot in
    let rest = redirected p.inner p.viewed p.frame c.in-Target.title c.in-Target.target (parts_at p) in
    let leads = subst (λ (r : Result Next Stop). LeadsOn seen p rest w.expander r u.expander) c.in-Ok.is (c.redirected_page.ensures.leads p (going-here w id w.listing (pending) e k)) in
    going-turn seen w u c.lead.new.self id w.listing (pending) c.in-Ok.next e rest turn k k.rest_is.1 refl leads (λ f q. follows seen f q)) c.lead.ensures

pub returns-in-Err-Needs : goal.returns-in-Err-Needs
returns-in-Err-Needs c =
    λ e g.
    let w = c.args.self.now in
    let seen = c.args.seen.now in
    let id = c.args.node in
    let pending = Target c.in-Target.title c.in-Target.target in
    let u : Work = record w { expander = c.redirected_page.new.self } in
    let k = going-as w id c.args.pending (pending) e c.in-Target.is g in
    let p : Place = place_of k.spot in
    let rest = redirected p.inner p.viewed p.frame c.in-Target.title c.in-Target.target (parts_at p) in
    let here = going-here w id w.listing (pending) e k in
    let stopped = subst (λ (r : Result Next Stop). LeadsOn seen p rest w.expander r u.expander) c.in-Err-Needs.is (c.redirected_page.ensures.leads p here) in
    let stops = subst (λ (s : Stop). LeadsOn seen p rest w.expander (Err s) u.expander) c.in-Err-Needs.field-0-is stopped in
    let kept = subst (λ (r : Result Next Stop). Keeps r w.expander u.expander) c.in-Err-Needs.is c.redirected_page.ensures.keeps in
    let same : u.expander ≡ w.expander = subst (λ (s : Stop). Keeps {X = Next} (Err s) w.expander u.expander) c.in-Err-Needs.field-0-is kept in
    going-needs seen w u id (pending) c.in-Err-Needs.needed c.in-Err-Needs.kind e rest k k.rest_is.1 (ap (λ (x : Expander). record w { expander = x }) same) stops

pub lead-requires-in-Binds : goal.lead-requires-in-Binds
lead-requires-in-Binds c =
    let w = c.args.self.now in
    let seen = c.args.seen.now in
    let id = c.args.node in
    let pending = Binds c.in-Binds.page c.in-Binds.binder in
    let u : Work = record w { expander = c.bind.new.self } in
    let k = going-as w id c.args.pending pending c.requires.0 c.in-Binds.is c.requires.1 in
    going-next seen w u id w.listing pending c.in_ok-next-in-Binds.next c.requires.0 k.rest k refl
    (c.in_ok-next-in-Binds.ensures seen (place_of k.spot) k.rest (going-here w id w.listing pending c.requires.0 k)
    (subst (λ (x : Inclusion). IsBinds (place_of k.spot) x c.in-Binds.binder k.rest) (sym c.found.ensures) k.rest_is.1))

pub returns-in_ok-next-in-Binds : goal.returns-in_ok-next-in-Binds
returns-in_ok-next-in-Binds c =
    let w = c.args.self.now in
    let seen = c.args.seen.now in
    let id = c.args.node in
    let pending = Binds c.in-Binds.page c.in-Binds.binder in
    let u : Work = record w { expander = c.bind.new.self } in
    IfOk-weaker c.lead-in-Binds.result _ _ (λ turn follows e g.
    let k = going-as w id c.args.pending pending e c.in-Binds.is g in
    going-turn seen w u c.lead-in-Binds.new.self id w.listing pending c.in_ok-next-in-Binds.next e k.rest turn k refl refl
    (c.in_ok-next-in-Binds.ensures seen (place_of k.spot) k.rest (going-here w id w.listing pending e k)
    (subst (λ (x : Inclusion). IsBinds (place_of k.spot) x c.in-Binds.binder k.rest) (sym c.found.ensures) k.rest_is.1))
    (λ f q. follows seen f q)) c.lead-in-Binds.ensures
