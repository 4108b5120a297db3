use Rattle.std.proofs.Common.{◌≡◌, refl, sym, subst}
use Rattle.wk_view_rules.specs.Plans.{done}
use Rattle.wk_view_rules.specs.Worlds.{of_seen}
use Rattle.wk_expand.specs.Drafts.{DraftShown, drafted, plan_of}
use Rattle.wk_expand.specs.Kept.{expanded_with}
use Rattle.wk_expand.specs.declared.stack.Turn.{Turn}
use Rattle.wk_expand.proofs.DraftLaws.{LeftBy, turn-left}
use Rattle.wk_expand.proofs.machine.go_on.Goals as goal

pub made-requires : goal.made-requires
made-requires c =
    let seen = c.args.seen.now in
    let page = c.args.page.now in
    let given = c.args.given.now in
    let u = c.step.new.self in
    let old = c.steps.invariant in
    let left = subst (λ (t : Turn). LeftBy seen page given t u) c.in-Done.is
    (turn-left seen page given c.steps.work u c.steps.now c.in_ok-next.field-0 old.0 old.1 (c.in_ok-next.ensures old.0.rest old.0.now_is))
    in
    record { everywhere = λ source agrees. c.done_by_the_reads_alone.ensures.plan (of_seen seen) source (plan_of page given) (expanded_with u.listing.out u.expander.counts) u.expander.reads left agrees }

pub returns-in-Done : goal.returns-in-Done
returns-in-Done c =
    let seen = c.args.seen.now in
    let page = c.args.page.now in
    let given = c.args.given.now in
    let u = c.step.new.self in
    let old = c.steps.invariant in
    let left = subst (λ (t : Turn). LeftBy seen page given t u) c.in-Done.is
    (turn-left seen page given c.steps.work u c.steps.now c.in_ok-next.field-0 old.0 old.1 (c.in_ok-next.ensures old.0.rest old.0.now_is))
    in
    subst (λ (d : DraftShown). (d.page ≡ page) × (d.given ≡ given) × (drafted (of_seen seen) page given ≡ done d.expanded d.reads)) (sym c.in_ok-made-in-Done.ensures)
    (refl, refl, left)

pub returns-in-Needs : goal.returns-in-Needs
returns-in-Needs c =
    let seen = c.args.seen.now in
    let page = c.args.page.now in
    let given = c.args.given.now in
    let u = c.step.new.self in
    let old = c.steps.invariant in
    let left = subst (λ (t : Turn). LeftBy seen page given t u) c.in-Needs.is
    (turn-left seen page given c.steps.work u c.steps.now c.in_ok-next.field-0 old.0 old.1 (c.in_ok-next.ensures old.0.rest old.0.now_is))
    in
    (left.0, left.2, left.1)

pub steps-preserved : goal.steps-preserved
steps-preserved c =
    let seen = c.args.seen.now in
    let page = c.args.page.now in
    let given = c.args.given.now in
    let u = c.step.new.self in
    let old = c.steps.invariant in
    let left = subst (λ (t : Turn). LeftBy seen page given t u) c.in-On.is
    (turn-left seen page given c.steps.work u c.steps.now c.in_ok-next.field-0 old.0 old.1 (c.in_ok-next.ensures old.0.rest old.0.now_is))
    in
    left
