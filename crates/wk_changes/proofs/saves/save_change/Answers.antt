use Rattle.std.proofs.Common.{◌≡◌, ℕ, ◌∷◌, [], eqb, not, map, is_some, ap, ap₂, ◌∙◌, sym, rules}
use Rattle.std.specs.Option.{option_copied, option_to_list}
use Rattle.wk_page_rules.specs.History.{page_exists}
use Rattle.wk_table_rules.specs.Changes.{add_revision, set_page}
use Rattle.wk_wiki_rules.specs.Steps.{reach_of_save}
use Rattle.wk_revs.specs.declared.standing.Standing.{Standing}
use Rattle.wk_tables.specs.Edits.{edit_of}
use Rattle.wk_changes.specs.Parts.{parts}
use Rattle.wk_changes.specs.Saved.{page_of_save, revision_of_save}
use Rattle.wk_changes.proofs.FanEdits.{save-by}
use Rattle.wk_changes.proofs.saves.save_change.Goals as goal

pub returns : goal.returns
returns c =
    let state = parts c.args.revs.now c.args.jobs.now c.args.index.now in
    let title = c.args.title.now in
    let text = option_copied c.args.text in
    let refresh = map edit_of (option_to_list c.in_ok-refresh_edit.field-0) in
    let fan = map edit_of (option_to_list c.in_ok-fan_edit.field-0) in
    let is = c.requires.standing in
    let some : c.is_some.result ≡ is_some text = search rules in
    let reach_is : c.reach-reach.result ≡ reach_of_save (page_exists state.history title) (is_some text) =
    c.reach-reach.ensures ∙ ap₂ reach_of_save (ap (λ (s : Standing). not (eqb s.current 0)) is) some in
    c.in_ok-push_some-2.ensures
    ∙ save-by state title text c.args.standing.to_save c.reach-reach.result c.args.wants_fan c.args.moment
    (map edit_of c.in_ok-edits.edits.items) (map edit_of c.push_some.new.edits.items) refresh fan
    (ap (λ (s : Standing). s.to_save) is) reach_is c.requires.wants_fan
    (c.in_ok-edits.ensures
    ∙ ap (λ (s : Standing). add_revision (revision_of_save s text c.args.moment) ∷ set_page (page_of_save s title text) ∷ []) is)
    c.in_ok-push_some.ensures c.in_ok-refresh_edit.ensures
    (λ stored lists fans next wanted. c.in_ok-fan_edit.ensures stored lists fans (next ∙ sym c.number_behind-number.ensures) wanted)
