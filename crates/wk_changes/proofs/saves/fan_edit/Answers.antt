use Rattle.std.proofs.Common.{◌≡◌, ℕ, ◌∷◌, [], List, sym, ap, ◌∙◌, rules}
use Rattle.std.specs.Prelude.{find}
use Rattle.wk_text_rules.specs.Titles.{PageTitle, title_eq}
use Rattle.wk_table_rules.specs.Rows.{JobColumns}
use Rattle.wk_table_rules.specs.Changes.{add_job, set_job}
use Rattle.wk_wiki_rules.specs.Jobs.{FanEntry, wider}
use Rattle.wk_wiki_rules.specs.TableChanges.{row_of_fan}
use Rattle.wk_changes.proofs.FanEdits.{unwanted, found, added}
use Rattle.wk_changes.proofs.saves.fan_edit.Goals as goal

found-in : (title : PageTitle) (xs ys : List FanEntry) → xs ≡ ys → find (λ (fan : FanEntry). title_eq fan.title title) xs ≡ find (λ (fan : FanEntry). title_eq fan.title title) ys
found-in title xs ys same = ap (find (λ (fan : FanEntry). title_eq fan.title title)) same

pub returns-then-not-is_wanted : goal.returns-then-not-is_wanted
returns-then-not-is_wanted c stored lists fans next wanted =
    sym (unwanted stored lists c.args.title.now c.args.reach (sym wanted ∙ c.if-not-is_wanted.true))

pub returns-in_ok-row_of_fan-in-Some : goal.returns-in_ok-row_of_fan-in-Some
returns-in_ok-row_of_fan-in-Some c stored lists fans next wanted =
    let fan = c.in-Some.fan.now in
    let row : c.in_ok-row_of_fan-in-Some.field-0 ≡ row_of_fan (record fan { reach = wider fan.reach c.args.reach; cursor = 0 }) = search rules in
    let is = found-in c.args.title.now lists.fans c.args.jobs.now.lists.fans fans ∙ sym c.in-Some.ensures in
    ap (λ (row : JobColumns). set_job row ∷ []) row ∙ sym (found stored lists c.args.title.now c.args.reach fan is)

pub returns-in_ok-row_of_fan-in-None : goal.returns-in_ok-row_of_fan-in-None
returns-in_ok-row_of_fan-in-None c stored lists fans next wanted =
    let row : c.in_ok-row_of_fan-in-None.field-0 ≡ row_of_fan (record { number = c.args.number; title = c.args.title.now; reach = c.args.reach; cursor = 0 }) = search rules in
    let none = found-in c.args.title.now lists.fans c.args.jobs.now.lists.fans fans ∙ sym c.in-None.ensures in
    ap (λ (row : JobColumns). add_job row ∷ []) row
    ∙ (ap (λ (number : ℕ). add_job (row_of_fan (record { number = number; title = c.args.title.now; reach = c.args.reach; cursor = 0 })) ∷ []) (sym next)
    ∙ sym (added stored lists c.args.title.now c.args.reach none (sym wanted ∙ c.if-not-is_wanted.false)))
