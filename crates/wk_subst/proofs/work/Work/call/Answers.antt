use Rattle.std.proofs.Common.{◌≡◌, ◌/◌, ℕ, List, Some, ap, ap₂, subst, ◌∙◌}
use Rattle.std.specs.Option.{option_copied}
use Rattle.std.proofs.lemmas.Result.{on_ok_weaker}
use Rattle.wk_text_rules.specs.Titles.{PageTitle}
use Rattle.wk_subst_rules.specs.Places.{Bound}
use Rattle.wk_subst.specs.Budget.{IsBeyond, IsCharged}
use Rattle.wk_subst.specs.declared.stack.Call.{Call}
use Rattle.wk_subst.specs.declared.work.Work.{Work}
use Rattle.wk_subst.proofs.StepLaws.{put-beyond, put-within}
use Rattle.wk_subst.proofs.work.Work.call.Goals as goal

pub returns-then-not-charge : goal.returns-then-not-charge
returns-then-not-charge c =
    let w : Work = c.args.self.now in
    let found : option_copied c.args.text ≡ Some c.in-Some.text.now = ap option_copied c.in-Some.is in
    let beyond = subst (λ (n : ℕ). IsBeyond w.spent (n / 64) c.charge.new.self) c.len.ensures.value c.if-not-charge.ensures.beyond in
    on_ok_weaker c.give_source-then-not-charge.result (λ is.
    put-beyond w c.give_source-then-not-charge.new.self c.args.node c.args.title (option_copied c.args.text) c.in-Some.text.now c.charge.new.self c.requires.sound found beyond is) c.give_source-then-not-charge.ensures

pub returns : goal.returns
returns c =
    let w : Work = c.args.self.now in
    let found : option_copied c.args.text ≡ Some c.in-Some.text.now = ap option_copied c.in-Some.is in
    let within = subst (λ (n : ℕ). IsCharged w.spent (n / 64) c.charge.new.self) c.len.ensures.value c.if-not-charge.ensures.within in
    let called : PageTitle → List ℕ → List Bound → Call = λ title text bound. record { title = title; text = text; bound = bound; numbered = 0; next = 0 } in
    let inside : PageTitle = record { ns = c.title.inside.ns; key = c.title.inside.key } in
    on_ok_weaker c.bind_next.result (λ h.
    put-within w c.bind_next.new.self c.args.node c.args.title (option_copied c.args.text) c.in-Some.text.now c.charge.new.self c.requires.sound found (called inside c.in_ok-share.field-0 c.new.result) within
    (ap (λ (title : PageTitle). called title c.in_ok-share.field-0 c.new.result) c.title.view_is ∙ ap₂ (called c.args.title) c.in_ok-share.ensures c.new.ensures) h) c.bind_next.ensures
