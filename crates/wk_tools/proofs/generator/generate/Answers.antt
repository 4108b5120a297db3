use Rattle.std.proofs.Common.{◌≡◌, ◌+◌, ◌∷◌, ◌∙◌, Err, arith, rules}
use Rattle.std.proofs.lemmas.Grind.{common_steps}
use Rattle.wk_tool_rules.specs.Generator.{generated}
use Rattle.wk_revs.specs.declared.verdict.SaveRefusal.TheVariants.{StoreFault}
use Rattle.wk_tools.specs.Generating.{infobox_save, note_save, pages_left}
use Rattle.wk_tools.proofs.Generating.{at-first, behind-infobox, behind-note, behind-page, generating-refused, keeper-on, refused-page}
use Rattle.wk_tools.proofs.generator.generate.Goals as goal

pub returns-in_err-save_infobox-clause-refused : goal.returns-in_err-save_infobox-clause-refused
returns-in_err-save_infobox-clause-refused g c =
    let left = g.C.Clock.left c.args.clock.now in
    let is : c.from_residual.result ≡ Err c.in_err-save_infobox.field-0.0 = first_of (search rules, grind (arith, common_steps)) in
    rw is (generating-refused g.K.Keeper.told c.args.wiki.now c.args.wiki.now c.save_infobox.new.wiki (generated c.args.pages c.args.number) (note_save ∷ pages_left c.args.pages 1 c.args.number) left left infobox_save
    c.in_err-save_infobox.field-0.0 (at-first g.K.Keeper.told g.K.Keeper.faults c.args.wiki.now c.args.pages c.args.number left) c.in_err-save_infobox.ensures.refused)

pub returns-in_err-save_note-clause-refused : goal.returns-in_err-save_note-clause-refused
returns-in_err-save_note-clause-refused g c =
    let left = g.C.Clock.left c.args.clock.now in
    let later = g.C.Clock.left c.save_infobox.new.clock in
    let first = c.save_infobox.new.wiki in
    let is : c.from_residual-in_err-save_note.result ≡ Err c.in_err-save_note.field-0.0 = first_of (search rules, grind (arith, common_steps)) in
    rw is (generating-refused g.K.Keeper.told c.args.wiki.now first c.save_note.new.wiki (generated c.args.pages c.args.number) (pages_left c.args.pages 1 c.args.number) left later note_save
    c.in_err-save_note.field-0.0 (behind-infobox g.K.Keeper.told g.K.Keeper.faults c.args.wiki.now c.args.pages c.args.number left first later c.in_ok-save_infobox.ensures.saved) c.in_err-save_note.ensures.refused)

pub pages-init : goal.pages-init
pages-init g c =
    let told = g.K.Keeper.told in
    let faults = g.K.Keeper.faults in
    let left = g.C.Clock.left c.args.clock.now in
    let first = c.save_infobox.new.wiki in
    let later = g.C.Clock.left c.save_infobox.new.clock in
    let saved = c.in_ok-save_infobox.ensures.saved in
    let second = c.save_note.new.wiki in (
      behind-note told faults c.args.wiki.now c.args.pages c.args.number left first later saved second (g.C.Clock.left c.save_note.new.clock) c.in_ok-save_note.ensures.saved,
      c.in_ok-save_note.ensures.unsealed,
      keeper-on told faults c.args.wiki.now c.args.pages c.args.number left first second (note_save ∷ pages_left c.args.pages 1 c.args.number) later
          (behind-infobox told faults c.args.wiki.now c.args.pages c.args.number left first later saved) c.in_ok-save_infobox.ensures.keeper c.in_ok-save_note.ensures.keeper,
      c.in_ok-save_note.ensures.no_fault (λ e. cc) ∙ c.in_ok-save_infobox.ensures.no_fault (λ e. cc),
    )

pub returns-in-Err-clause-refused : goal.returns-in-Err-clause-refused
returns-in-Err-clause-refused g c =
    refused-page g.K.Keeper.told g.K.Keeper.faults c.args.wiki.now c.args.pages c.args.number (g.C.Clock.left c.args.clock.now) c.pages.wiki c.pages.done c.pages.seed (g.C.Clock.left c.pages.clock) c.pages-test.true
    c.pages.invariant.0 c.save_page.new.wiki c.in-Err.refusal c.in-Err.ensures.refused

pub returns-in-Err-clause-keeper : goal.returns-in-Err-clause-keeper
returns-in-Err-clause-keeper g c =
    keeper-on g.K.Keeper.told g.K.Keeper.faults c.args.wiki.now c.args.pages c.args.number (g.C.Clock.left c.args.clock.now) c.pages.wiki c.save_page.new.wiki
    (pages_left c.args.pages (c.pages.done + 1) c.pages.seed) (g.C.Clock.left c.pages.clock) c.pages.invariant.0 c.pages.invariant.2 c.in-Err.ensures.keeper

pub pages-preserved : goal.pages-preserved
pages-preserved g c =
    let told = g.K.Keeper.told in
    let faults = g.K.Keeper.faults in
    let left = g.C.Clock.left c.args.clock.now in
    let between = g.C.Clock.left c.pages.clock in (
      behind-page told faults c.args.wiki.now c.args.pages c.args.number left c.pages.wiki c.pages.done c.pages.seed between c.pages-test.true c.pages.invariant.0 c.save_page.new.wiki c.in-Ok.later
          (g.C.Clock.left c.save_page.new.clock) c.in-Ok.ensures.seed c.in-Ok.ensures.saved,
      c.in-Ok.ensures.unsealed,
      keeper-on told faults c.args.wiki.now c.args.pages c.args.number left c.pages.wiki c.save_page.new.wiki (pages_left c.args.pages (c.pages.done + 1) c.pages.seed) between c.pages.invariant.0 c.pages.invariant.2
          c.in-Ok.ensures.keeper,
      c.in-Ok.ensures.no_fault (λ e. cc) ∙ c.pages.invariant.3,
    )

pub returns-in_err-save_note-clause-no_fault : goal.returns-in_err-save_note-clause-no_fault
returns-in_err-save_note-clause-no_fault g c =
    let is : c.from_residual-in_err-save_note.result ≡ Err c.in_err-save_note.field-0.0 = first_of (search rules, grind (arith, common_steps)) in
    λ other. c.in_err-save_note.ensures.no_fault (λ e. other (is ∙ e)) ∙ c.in_ok-save_infobox.ensures.no_fault (λ e. cc)

pub returns-in-Err-clause-no_fault : goal.returns-in-Err-clause-no_fault
returns-in-Err-clause-no_fault g c = λ other. c.in-Err.ensures.no_fault (λ e. other (let is : Err c.in-Err.refusal ≡ Err StoreFault = e in cc)) ∙ c.pages.invariant.3
