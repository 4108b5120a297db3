use Rattle.std.proofs.Common.{◌≡◌, Some, ap, ◌∙◌, refl, subst, sym}
use Rattle.std.specs.Prelude.{IfOk, IsSome, OnOk}
use Rattle.wk_page_rules.specs.Verdict.{Verdict}
use Rattle.wk_wiki_rules.specs.Verdicts.{event_of}
use Rattle.wk_wiki_rules.specs.SaveOutcomes.{save_outcome, unchanged}
use Rattle.wk_revs.specs.Edit.{edit_asked}
use Rattle.wk_core.specs.Answers.{saved_outcome}
use Rattle.wk_core.specs.Plans.{IsPlanned}
use Rattle.wk_core.specs.Steps.{HasMadeAtMost}
use Rattle.wk_core.proofs.wiki.Wiki.save.Goals as goal

pub save_planned-requires-clause-planned : goal.save_planned-requires-clause-planned
save_planned-requires-clause-planned g c = record {
  edit = edit_asked c.args.edit.now;
  is = subst (IsPlanned c.args.self.now (edit_asked c.args.edit.now)) c.in-Save.is c.in-Ok.ensures;
}

pub returns-in-NoChange-clause-saved : goal.returns-in-NoChange-clause-saved
returns-in-NoChange-clause-saved g c =
    let planned = subst (IsPlanned c.args.self.now (edit_asked c.args.edit.now)) c.in-NoChange.is c.in-Ok.ensures in
    ap (λ page. Some (unchanged c.in-NoChange.title page)) planned.1 ∙ ap (save_outcome c.args.self.now.state.history) (sym planned.0)

pub returns-in-NoChange-clause-event : goal.returns-in-NoChange-clause-event
returns-in-NoChange-clause-event g c =
    let planned = subst (IsPlanned c.args.self.now (edit_asked c.args.edit.now)) c.in-NoChange.is c.in-Ok.ensures in
    subst (λ (v : Verdict). HasMadeAtMost g.K.Keeper.told c.args.self.now c.args.self.now (event_of v c.args.now)) (sym planned.0) (record { wiki = refl; tables = refl })

pub returns-in-Save-clause-saved : goal.returns-in-Save-clause-saved
returns-in-Save-clause-saved g c =
    let planned = subst (IsPlanned c.args.self.now (edit_asked c.args.edit.now)) c.in-Save.is c.in-Ok.ensures in
    subst (λ (v : Verdict). IfOk c.save_planned.result (λ saved. Some (saved_outcome saved) ≡ save_outcome c.args.self.now.state.history v)) (sym planned.0) c.save_planned.ensures.saved

pub returns-in-Save-clause-event : goal.returns-in-Save-clause-event
returns-in-Save-clause-event g c =
    let planned = subst (IsPlanned c.args.self.now (edit_asked c.args.edit.now)) c.in-Save.is c.in-Ok.ensures in
    subst (λ (v : Verdict). OnOk c.save_planned.result (HasMadeAtMost g.K.Keeper.told c.args.self.now c.save_planned.new.self (event_of v c.args.now))) (sym planned.0) c.save_planned.ensures.event

pub returns-in-Save-clause-fault_at_event : goal.returns-in-Save-clause-fault_at_event
returns-in-Save-clause-fault_at_event g c = λ _.
    let planned = subst (IsPlanned c.args.self.now (edit_asked c.args.edit.now)) c.in-Save.is c.in-Ok.ensures in
    subst (λ (v : Verdict). IsSome (event_of v c.args.now)) (sym planned.0) refl
