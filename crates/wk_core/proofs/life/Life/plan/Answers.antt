use Rattle.std.proofs.Common.{◌≡◌, false, length, Some, sym, ap, ◌∙◌, subst}
use Rattle.wk_page_rules.specs.History.{page_to_save}
use Rattle.wk_page_rules.specs.Verdict.{accept, is_journal_full, judged, no_change, with_room}
use Rattle.wk_wiki_rules.specs.Verdicts.{journal_use}
use Rattle.wk_life_laws.specs.Lives.{journal_of}
use Rattle.wk_life_laws.proofs.RunRoom.{accepted_in}
use Rattle.wk_revs.specs.Edit.{edit_asked, most_held}
use Rattle.wk_revs.specs.Revs.{Stored}
use Rattle.wk_revs.specs.Standing.{standing}
use Rattle.wk_revs.specs.Verdict.{verdict_of}
use Rattle.wk_core.specs.LifeHeld.{LifeHeld}
use Rattle.wk_core.proofs.life.Life.plan.Goals as goal

pub returns-in-NoChange : goal.returns-in-NoChange
returns-in-NoChange c =
    let told : Some (no_change c.in-NoChange.title) ≡ Some (judged c.revs-revs.result.now.history (most_held c.self.inside.limits) (edit_asked c.args.edit.now)) =
    sym (ap verdict_of c.in-NoChange.is) ∙ c.in_ok-refusal.ensures.verdict in
    let judges : judged c.revs-revs.result.now.history (most_held c.self.inside.limits) (edit_asked c.args.edit.now) ≡ no_change c.in-NoChange.title = cc in
    let inside : judged c.self.inside.live.state.history (most_held c.self.inside.limits) (edit_asked c.args.edit.now) ≡ no_change c.in-NoChange.title =
    subst (λ (r : Stored). judged r.history (most_held c.self.inside.limits) (edit_asked c.args.edit.now) ≡ no_change c.in-NoChange.title) c.revs-revs.ensures judges in
    let here = subst (λ (h : LifeHeld). judged h.life.state.history h.life.limits (edit_asked c.args.edit.now) ≡ no_change c.in-NoChange.title) c.self.view_is inside in
    let life = c.args.self.now.life in (
      ap (with_room (is_journal_full life.limits (journal_use life.state (length (journal_of life))))) here,
      c.page_to_save-page.ensures
          ∙ (ap (λ (r : Stored). page_to_save r.history c.in-NoChange.title) c.revs-revs.ensures ∙ ap (λ (h : LifeHeld). page_to_save h.life.state.history c.in-NoChange.title) c.self.view_is),
    )

pub returns-else-is_full : goal.returns-else-is_full
returns-else-is_full c =
    let told : Some (accept c.in-Accept.title c.in-Accept.text) ≡ Some (judged c.revs-revs.result.now.history (most_held c.self.inside.limits) (edit_asked c.args.edit.now)) =
    sym (ap verdict_of c.in-Accept.is) ∙ c.in_ok-refusal.ensures.verdict in
    let accepts : judged c.revs-revs.result.now.history (most_held c.self.inside.limits) (edit_asked c.args.edit.now) ≡ accept c.in-Accept.title c.in-Accept.text = cc in
    let inside : judged c.self.inside.live.state.history (most_held c.self.inside.limits) (edit_asked c.args.edit.now) ≡ accept c.in-Accept.title c.in-Accept.text =
    subst (λ (r : Stored). judged r.history (most_held c.self.inside.limits) (edit_asked c.args.edit.now) ≡ accept c.in-Accept.title c.in-Accept.text) c.revs-revs.ensures accepts in
    let here = subst (λ (h : LifeHeld). judged h.life.state.history h.life.limits (edit_asked c.args.edit.now) ≡ accept c.in-Accept.title c.in-Accept.text) c.self.view_is inside in
    let life = c.args.self.now.life in
    let free : is_journal_full life.limits (journal_use life.state (length (journal_of life))) ≡ false = sym c.is_full.ensures ∙ c.if-is_full.false in (
      accepted_in life.limits life.state (length (journal_of life)) (edit_asked c.args.edit.now) c.in-Accept.title c.in-Accept.text here free,
      c.standing-standing.ensures
          ∙ (ap (λ (r : Stored). standing r.history c.in-Accept.title) c.revs-revs.ensures ∙ ap (λ (h : LifeHeld). standing h.life.state.history c.in-Accept.title) c.self.view_is),
    )
