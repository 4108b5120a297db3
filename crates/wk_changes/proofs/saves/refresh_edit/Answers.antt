use Rattle.std.proofs.Common.{◌≡◌, ℕ, true, false, ◌∷◌, [], refl, ap, ◌∙◌}
use Rattle.wk_table_rules.specs.Rows.{JobColumns}
use Rattle.wk_table_rules.specs.Changes.{add_job}
use Rattle.wk_table_rules.specs.JobTable.{refresh_row}
use Rattle.wk_wiki_rules.specs.Jobs.{has_refresh}
use Rattle.wk_changes.proofs.HeldJob.{has-is}
use Rattle.wk_changes.proofs.saves.refresh_edit.Goals as goal

pub returns-then-is_some : goal.returns-then-is_some
returns-then-is_some c =
    let is = has-is c.args.jobs.now.lists c.args.page in
    let has : has_refresh c.args.jobs.now.lists c.args.page ≡ true = cc in
    rw has refl

pub returns : goal.returns
returns c =
    let is = has-is c.args.jobs.now.lists c.args.page in
    let has : has_refresh c.args.jobs.now.lists c.args.page ≡ false = cc in
    rw has
    (ap (λ (row : JobColumns). add_job row ∷ []) (c.in_ok-row.ensures ∙ ap (λ (number : ℕ). refresh_row number c.args.title.now) c.next_number.ensures.next))
