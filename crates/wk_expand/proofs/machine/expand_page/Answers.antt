use Rattle.std.proofs.Common.{◌≡◌, [], Some, None, option_map, refl, ap, sym, subst, ◌∙◌}
use Rattle.std.specs.Option.{option_copied}
use Rattle.wk_text_rules.specs.Titles.{PageTitle}
use Rattle.wk_view_rules.specs.Expansions.{Output}
use Rattle.wk_expand.specs.Kept.{expanded_with}
use Rattle.wk_expand.specs.declared.answer.Counts.{Counts}
use Rattle.wk_view_rules.specs.Plans.{done, noted}
use Rattle.wk_view_rules.specs.Views.{view_plan}
use Rattle.wk_view_rules.specs.Worlds.{ask, of_seen}
use Rattle.wk_view_rules.specs.declared.Kind.TheVariants.{View}
use Rattle.wk_expand.specs.Answers.{answer_of, read_with}
use Rattle.wk_expand.specs.Drafts.{DraftShown, drafted}
use Rattle.wk_expand.specs.Running.{needed}
use Rattle.wk_expand.proofs.DraftLaws.{first-answer, missing-done, nothing-agrees, view-answered, view-missing}
use Rattle.wk_expand.proofs.machine.expand_page.Goals as goal

pub returns-in_default : goal.returns-in_default
returns-in_default c =
    let missing : ask (of_seen c.args.seen.now) c.args.page.now View ≡ None =
    sym c.in_ok-answer.ensures.answer ∙ ap (λ o. option_map answer_of (option_copied o)) c.in_default.is
    in (
      subst (λ (t : PageTitle). needed (drafted (of_seen c.args.seen.now) c.args.page.now None) ≡ Some (t, View)) (sym c.in_ok-share.ensures)
          (view-missing c.args.seen.now c.args.page.now missing),
      nothing-agrees c.args.seen.now,
      tt,
    )

pub expand_text-requires-clause-left : goal.expand_text-requires-clause-left
expand_text-requires-clause-left c =
    let answer = answer_of c.in-Some.answer.now in
    let reads = c.note.new.self in
    let are : reads ≡ noted [] (read_with c.args.page.now View answer) = c.in_ok-note.ensures ∙ ap (λ rs. noted rs (read_with c.args.page.now View answer)) c.new-reads.ensures in
    λ later h. view-answered later c.args.page.now answer (Some c.in-Some-text.text.now) reads (first-answer later c.args.page.now answer reads are h)
    (sym c.text.ensures ∙ ap option_copied c.in-Some-text.is) are

pub made-requires : goal.made-requires
made-requires c =
    let seen = c.args.seen.now in
    let page = c.args.page.now in
    let reads = c.note.new.self in
    let none : Counts = record { nodes = 0; include = 0; argument = 0; exists = 0 } in
    let ends =
    view-answered seen page (answer_of c.in-Some.answer.now) None reads
    (sym c.in_ok-answer.ensures.answer ∙ ap (λ o. option_map answer_of (option_copied o)) c.in-Some.is)
    (sym c.text.ensures ∙ ap option_copied c.in-None.is)
    (c.in_ok-note.ensures ∙ ap (λ rs. noted rs (read_with page View (answer_of c.in-Some.answer.now))) c.new-reads.ensures)
    ∙ missing-done seen page reads
    in
    let drafts : drafted (of_seen seen) page None ≡ done (expanded_with c.new.result none) reads =
    subst (λ (o : Output). drafted (of_seen seen) page None ≡ done (expanded_with o none) reads) (sym c.new.ensures) ends
    in
    record { everywhere = λ source agrees. c.done_by_the_reads_alone.ensures.plan (of_seen seen) source (view_plan page) (expanded_with c.new.result none) reads drafts agrees }

pub returns-in_ok-draft-in-None : goal.returns-in_ok-draft-in-None
returns-in_ok-draft-in-None c =
    let seen = c.args.seen.now in
    let page = c.args.page.now in
    let reads = c.note.new.self in
    let none : Counts = record { nodes = 0; include = 0; argument = 0; exists = 0 } in
    let ends =
    view-answered seen page (answer_of c.in-Some.answer.now) None reads
    (sym c.in_ok-answer.ensures.answer ∙ ap (λ o. option_map answer_of (option_copied o)) c.in-Some.is)
    (sym c.text.ensures ∙ ap option_copied c.in-None.is)
    (c.in_ok-note.ensures ∙ ap (λ rs. noted rs (read_with page View (answer_of c.in-Some.answer.now))) c.new-reads.ensures)
    ∙ missing-done seen page reads
    in
    let drafts : drafted (of_seen seen) page None ≡ done (expanded_with c.new.result none) reads =
    subst (λ (o : Output). drafted (of_seen seen) page None ≡ done (expanded_with o none) reads) (sym c.new.ensures) ends
    in
    subst (λ (d : DraftShown). (d.page ≡ page) × (d.given ≡ None) × (drafted (of_seen seen) page None ≡ done d.expanded d.reads)) (sym c.in_ok-draft-in-None.ensures)
    (refl, refl, drafts)
