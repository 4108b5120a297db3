use Rattle.std.proofs.Common.{◌≡◌, Bool, true, false, cond, eqb, not, List, length, Some, refl, subst, sym, ap, ◌∙◌}
use Rattle.wk_text_rules.specs.Titles.{PageTitle}
use Rattle.wk_page_rules.specs.History.{History, current_revision, next_revision, page_exists}
use Rattle.wk_table_rules.specs.Changes.{TableEdit}
use Rattle.wk_wiki_rules.specs.Events.{Save, with_saved}
use Rattle.wk_wiki_rules.specs.Tables.{tables_of}
use Rattle.wk_wiki_rules.specs.SaveOutcomes.{changed, created, save_numbers}
use Rattle.wk_wiki_rules.specs.declared.Entry.TheVariants as entry
use Rattle.wk_wiki_laws.specs.Makes.{Makes}
use Rattle.wk_life_laws.specs.Lives.{Life, journal_of}
use Rattle.wk_life_laws.specs.Next.{IsNext, with_entry}
use Rattle.wk_life_laws.proofs.Lives.{saved_life}
use Rattle.wk_revs.specs.Standing.{standing}
use Rattle.wk_core.specs.Answers.{saved_outcome, told_of_save}
use Rattle.wk_core.proofs.SaveFacts.{save-changes}
use Rattle.wk_core.proofs.WikiSteps.{made-from, told-fits, told-made}
use Rattle.wk_core.proofs.saves.save_accepted.Goals as goal

told-is : (h : History) (title : PageTitle) → told_of_save title (save_numbers h title) ≡ cond (page_exists h title) (changed title (save_numbers h title)) (created title (save_numbers h title))
told-is h title = by (eqb (current_revision h title) 0)
  where
    by : (b : Bool) → cond b (created title (save_numbers h title)) (changed title (save_numbers h title)) ≡ cond (not b) (changed title (save_numbers h title)) (created title (save_numbers h title))
    by true = refl
    by false = refl

pub apply-requires : goal.apply-requires
apply-requires g c =
    let life = c.args.life.now.life in
    let next = saved_life life (length (journal_of life)) c.args.moment c.requires.accepted.edit c.args.plan.title c.args.plan.text c.facts.ensures refl c.requires.unsealed c.requires.accepted.is in
    let makes = save-changes life c.facts.ensures c.args.plan.title c.args.plan.text c.requires.accepted (with_entry life (entry.Save (next_revision life.state.history)) (with_saved life.state c.args.plan.title c.args.plan.text c.args.moment)) c.args.moment next in
    let changed_as : Makes (tables_of life.state) c.in-Ok.prepared.change (tables_of (with_saved life.state c.args.plan.title c.args.plan.text c.args.moment)) =
    subst (λ (change : List TableEdit). Makes (tables_of life.state) change (tables_of (with_saved life.state c.args.plan.title c.args.plan.text c.args.moment))) (sym c.in-Ok.ensures.change) makes in
    told-fits life.state (g.K.Keeper.told c.args.keeper.now) c.in-Ok.prepared.change (tables_of (with_saved life.state c.args.plan.title c.args.plan.text c.args.moment)) c.requires.told changed_as

pub returns-in-Ok-apply-clause-told : goal.returns-in-Ok-apply-clause-told
returns-in-Ok-apply-clause-told g c =
    let life = c.args.life.now.life in
    let makes = save-changes life c.facts.ensures c.args.plan.title c.args.plan.text c.requires.accepted c.save.new.self.life c.args.moment (subst (λ (l : Life). IsNext l (Save c.args.plan.title c.args.plan.text c.args.moment) c.save.new.self.life) c.in-Ok.ensures.life c.save.ensures) in
    let changed_as : Makes (tables_of life.state) c.in-Ok.prepared.change (tables_of c.save.new.self.life.state) =
    subst (λ (change : List TableEdit). Makes (tables_of life.state) change (tables_of c.save.new.self.life.state)) (sym c.in-Ok.ensures.change) makes in
    told-made life.state (g.K.Keeper.told c.args.keeper.now) (g.K.Keeper.told c.apply.new.self) c.in-Ok.prepared.change c.save.new.self.life.state c.requires.told changed_as c.in-Ok-apply.ensures.tells c.in-Ok-apply.ensures.made

pub returns-in-Ok-apply-clause-event : goal.returns-in-Ok-apply-clause-event
returns-in-Ok-apply-clause-event g c =
    made-from g.K.Keeper.told g.K.Keeper.faults g.K.Keeper.is_whole c.args.keeper.now c.apply.new.self c.args.life.now.life c.save.new.self.life (Save c.args.plan.title c.args.plan.text c.args.moment) (subst (λ (l : Life). IsNext l (Save c.args.plan.title c.args.plan.text c.args.moment) c.save.new.self.life) c.in-Ok.ensures.life c.save.ensures) c.in-Ok-apply.ensures.stays_whole
    c.in-Ok-apply.ensures.tells
    c.in-Ok-apply.ensures.whole

pub returns-in-Ok-apply-clause-saved : goal.returns-in-Ok-apply-clause-saved
returns-in-Ok-apply-clause-saved g c =
    let h = c.args.life.now.life.state.history in
    let stands : c.standing-standing.result ≡ standing h c.args.plan.title = c.standing-standing.ensures ∙ c.requires.standing in
    let told : saved_outcome c.saved.result ≡ told_of_save c.args.plan.title (save_numbers h c.args.plan.title) = c.saved.ensures
    ∙ (λ i. told_of_save (c.in-Ok.ensures.told i) (record { page = (stands i).to_save; old = (stands i).current; new = (stands i).next })) in
    ap (λ o. Some o) (told ∙ told-is h c.args.plan.title)
