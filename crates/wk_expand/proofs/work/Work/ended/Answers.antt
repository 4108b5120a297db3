use Rattle.std.proofs.Common.{◌≡◌, ◌++◌, [], refl, sym, ap, subst, ◌∙◌}
use Rattle.std.specs.Option.{option_to_list}
use Rattle.std.proofs.lemmas.Result.{IfOk-weaker}
use Rattle.wk_view_rules.specs.Expansions.{Output}
use Rattle.wk_expand.specs.Work.{IsEnded}
use Rattle.wk_expand.specs.declared.stack.Listing.{Listing}
use Rattle.wk_expand.specs.declared.stack.Next.TheVariants.{Goes}
use Rattle.wk_expand.specs.declared.stack.Opened.{Opened}
use Rattle.wk_expand.specs.declared.stack.Pending.TheVariants.{Named}
use Rattle.wk_expand.specs.declared.work.Work.{Work}
use Rattle.wk_expand.proofs.NamedLaws.{name-leads}
use Rattle.wk_expand.proofs.WorkLaws.{ended-going, ended-turn, ended-waits}
use Rattle.wk_expand.proofs.work.Work.ended.Goals as goal

pub finished-requires : goal.finished-requires
finished-requires c =
    let w = c.args.self.now in
    let o : Opened = c.in-Some.top in
    let items = c.pop.ensures.items ∙ ap (λ (r : _). c.pop.new.self.items ++ option_to_list r) c.in-Some.is in
    let u : Work = record { expander = w.expander; opened = c.pop.new.self; listing = c.replace-listing.new.dest } in
    ended-waits w u w.listing.out c.requires.0 o c.pop.new.self.items items refl c.replace-listing.ensures.after c.requires.1

pub lead-requires : goal.lead-requires
lead-requires c =
    let w = c.args.self.now in
    let o : Opened = c.in-Some.top in
    let items = c.pop.ensures.items ∙ ap (λ (r : _). c.pop.new.self.items ++ option_to_list r) c.in-Some.is in
    let u : Work = record { expander = c.finished.new.self; opened = c.pop.new.self; listing = c.replace-listing.new.dest } in
    let out_is : c.replace-listing.result.out ≡ w.listing.out = ap (λ (l : Listing). l.out) c.replace-listing.ensures.value in
    let h = subst (λ (x : Output). IsEnded w x c.requires.0) (sym out_is) c.requires.1 in
    ended-going w u c.replace-listing.result.out c.requires.0 o c.pop.new.self.items items refl c.replace-listing.ensures.after h [] c.in_ok-next-in_default-waiting.next (λ k. c.in_ok-next-in_default-waiting.ensures [] k)

pub named-requires : goal.named-requires
named-requires c =
    let w = c.args.self.now in
    let o : Opened = c.in-Some.top in
    let items = c.pop.ensures.items ∙ ap (λ (r : _). c.pop.new.self.items ++ option_to_list r) c.in-Some.is in
    let u : Work = record { expander = w.expander; opened = c.pop.new.self; listing = c.replace-listing.new.dest } in
    let out = c.replace-listing.result.out in
    let out_is : out ≡ w.listing.out = ap (λ (l : Listing). l.out) c.replace-listing.ensures.value in
    let h = subst (λ (x : Output). IsEnded w x c.requires.0) (sym out_is) c.requires.1 in
    ended-going w u out c.requires.0 o c.pop.new.self.items items refl c.replace-listing.ensures.after h [] (Goes (Named out))
    (λ k. name-leads [] w.expander o.node o.waiting out c.in-Title.is k)

pub returns-in-Title : goal.returns-in-Title
returns-in-Title c =
    let w = c.args.self.now in
    let seen = c.args.seen.now in
    let o : Opened = c.in-Some.top in
    let items = c.pop.ensures.items ∙ ap (λ (r : _). c.pop.new.self.items ++ option_to_list r) c.in-Some.is in
    let u : Work = record { expander = w.expander; opened = c.pop.new.self; listing = c.replace-listing.new.dest } in
    let out = c.replace-listing.result.out in
    let out_is : out ≡ w.listing.out = ap (λ (l : Listing). l.out) c.replace-listing.ensures.value in
    IfOk-weaker c.named.result _ _ (λ turn k e h.
    ended-turn w u out e o c.pop.new.self.items items refl c.replace-listing.ensures.after (subst (λ (x : Output). IsEnded w x e) (sym out_is) h) seen (Goes (Named out))
    (λ q. name-leads seen w.expander o.node o.waiting out c.in-Title.is q) turn c.named.new.self (λ f g. k f g)) c.named.ensures

pub returns-in_ok-next-in_default-waiting : goal.returns-in_ok-next-in_default-waiting
returns-in_ok-next-in_default-waiting c =
    let w = c.args.self.now in
    let seen = c.args.seen.now in
    let o : Opened = c.in-Some.top in
    let items = c.pop.ensures.items ∙ ap (λ (r : _). c.pop.new.self.items ++ option_to_list r) c.in-Some.is in
    let u : Work = record { expander = c.finished.new.self; opened = c.pop.new.self; listing = c.replace-listing.new.dest } in
    let out_is : c.replace-listing.result.out ≡ w.listing.out = ap (λ (l : Listing). l.out) c.replace-listing.ensures.value in
    IfOk-weaker c.lead.result _ _ (λ turn k e h.
    ended-turn w u c.replace-listing.result.out e o c.pop.new.self.items items refl c.replace-listing.ensures.after (subst (λ (x : Output). IsEnded w x e) (sym out_is) h) seen c.in_ok-next-in_default-waiting.next
    (λ q. c.in_ok-next-in_default-waiting.ensures seen q) turn c.lead.new.self (λ f g. k seen f g)) c.lead.ensures
