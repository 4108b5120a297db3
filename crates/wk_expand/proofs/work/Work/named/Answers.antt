use Rattle.std.proofs.lemmas.Result.{IfOk-weaker}
use Rattle.std.proofs.Common.{◌≡◌, Err, Result, refl, ap, subst}
use Rattle.wk_view_rules.specs.Expand.{kind_output}
use Rattle.wk_expand.specs.Running.{Keeps}
use Rattle.wk_expand.specs.Stack.{LeadsOn, Place, parts_at}
use Rattle.wk_expand.specs.Work.{place_of}
use Rattle.wk_expand.specs.declared.stack.Next.{Next}
use Rattle.wk_expand.specs.declared.stack.Pending.TheVariants.{Named}
use Rattle.wk_expand.specs.declared.state.Expander.{Expander}
use Rattle.wk_expand.specs.declared.state.Stop.{Stop}
use Rattle.wk_expand.specs.declared.work.Work.{Work}
use Rattle.wk_expand.proofs.WorkLaws.{going-here, going-needs, going-next, going-turn}
use Rattle.wk_expand.proofs.work.Work.named.Goals as goal

pub lead-requires : goal.lead-requires
lead-requires c =
    let w = c.args.self.now in
    let seen = c.args.seen.now in
    let id = c.args.node in
    let pending = Named c.args.name in
    let u : Work = record w { expander = c.titled.new.self } in
    let k = c.requires.1 in
    let p : Place = place_of k.spot in
    let rest = kind_output p.inner p.viewed p.frame p.node.kind c.args.name (parts_at p) in
    let leads = subst (λ (r : Result Next Stop). LeadsOn seen p rest w.expander r u.expander) c.in-Ok.is (c.titled.ensures.leads p (going-here w id w.listing (pending) c.requires.0 k)) in
    going-next seen w u id w.listing (pending) c.in-Ok.next c.requires.0 rest k refl leads

pub returns-in-Ok : goal.returns-in-Ok
returns-in-Ok c =
    let w = c.args.self.now in
    let seen = c.args.seen.now in
    let id = c.args.node in
    let pending = Named c.args.name in
    let u : Work = record w { expander = c.titled.new.self } in
    IfOk-weaker c.lead.result _ _ (λ turn follows e g.
    let k = g in
    let p : Place = place_of k.spot in
    let rest = kind_output p.inner p.viewed p.frame p.node.kind c.args.name (parts_at p) in
    let leads = subst (λ (r : Result Next Stop). LeadsOn seen p rest w.expander r u.expander) c.in-Ok.is (c.titled.ensures.leads p (going-here w id w.listing (pending) e k)) in
    going-turn seen w u c.lead.new.self id w.listing (pending) c.in-Ok.next e rest turn k k.rest_is.1 refl leads (λ f q. follows seen f q)) c.lead.ensures

pub returns-in-Err-Needs : goal.returns-in-Err-Needs
returns-in-Err-Needs c =
    λ e g.
    let w = c.args.self.now in
    let seen = c.args.seen.now in
    let id = c.args.node in
    let pending = Named c.args.name in
    let u : Work = record w { expander = c.titled.new.self } in
    let k = g in
    let p : Place = place_of k.spot in
    let rest = kind_output p.inner p.viewed p.frame p.node.kind c.args.name (parts_at p) in
    let here = going-here w id w.listing (pending) e k in
    let stopped = subst (λ (r : Result Next Stop). LeadsOn seen p rest w.expander r u.expander) c.in-Err-Needs.is (c.titled.ensures.leads p here) in
    let stops = subst (λ (s : Stop). LeadsOn seen p rest w.expander (Err s) u.expander) c.in-Err-Needs.field-0-is stopped in
    let kept = subst (λ (r : Result Next Stop). Keeps r w.expander u.expander) c.in-Err-Needs.is c.titled.ensures.keeps in
    let same : u.expander ≡ w.expander = subst (λ (s : Stop). Keeps {X = Next} (Err s) w.expander u.expander) c.in-Err-Needs.field-0-is kept in
    going-needs seen w u id (pending) c.in-Err-Needs.title c.in-Err-Needs.kind e rest k k.rest_is.1 (ap (λ (x : Expander). record w { expander = x }) same) stops
