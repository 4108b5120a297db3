use Rattle.std.proofs.Common.{◌≡◌, ◌∷◌, [], cond, map, Some, sym, ap, ◌∙◌, subst}
use Rattle.std.specs.Option.{option_copied}
use Rattle.std.proofs.lemmas.List.{map-append}
use Rattle.wk_table_rules.specs.Changes.{drop_job, set_job}
use Rattle.wk_wiki_rules.specs.Jobs.{FanEntry, first_fan}
use Rattle.wk_wiki_rules.specs.Steps.{cursor_behind, fan_pages}
use Rattle.wk_tables.specs.Edits.{edit_of}
use Rattle.wk_wiki_rules.specs.TableChanges.{row_of_fan}
use Rattle.wk_changes.specs.Parts.{parts}
use Rattle.wk_changes.proofs.FanChanges.{served-rise, change-is}
use Rattle.wk_changes.proofs.fans.fan_change.Goals as goal

pub refreshes_edits-requires-clause-rising : goal.refreshes_edits-requires-clause-rising
refreshes_edits-requires-clause-rising c =
    let fan = c.unwrap-fan.result.now in
    let first : first_fan c.args.jobs.now.lists ≡ Some fan = sym c.first_fan.ensures ∙ ap option_copied c.unwrap-fan.ensures in
    served-rise (parts c.args.revs.now c.args.jobs.now c.args.index.now) fan_pages fan c.args.served.now (c.requires.served fan first)

pub returns : goal.returns
returns c fan first =
    let own = c.unwrap-fan.result.now in
    let found : first_fan c.args.jobs.now.lists ≡ Some own = sym c.first_fan.ensures ∙ ap option_copied c.unwrap-fan.ensures in
    let is : own ≡ fan = (let both : Some own ≡ Some fan = sym found ∙ first in cc) in
    let edit = edit_of c.in_ok-served_edit.field-0 in
    let made = subst
    (λ (f : FanEntry). edit ≡ cond c.args.is_last (drop_job f.number) (set_job (row_of_fan (record f { cursor = cursor_behind c.args.served.now f.cursor }))))
    is c.in_ok-served_edit.ensures in
    ap (map edit_of) c.in_ok-push.ensures.items
    ∙ (map-append edit_of c.in_ok-edits.edits.items (c.in_ok-served_edit.field-0 ∷ [])
    ∙ change-is (parts c.args.revs.now c.args.jobs.now c.args.index.now) fan_pages fan c.args.served.now (c.requires.served fan first) c.args.is_last
    (map edit_of c.in_ok-edits.edits.items) edit (c.requires.last fan first) c.in_ok-edits.ensures made)
