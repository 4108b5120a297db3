use Rattle.std.proofs.Common.{◌≡◌, ℕ, ◌+◌, ◌++◌, ◌∷◌, [], true, false, map, sym, ap, ◌∙◌}
use Rattle.std.proofs.lemmas.List.{append-nil, map-append}
use Rattle.wk_table_rules.specs.Rows.{JobColumns}
use Rattle.wk_table_rules.specs.Changes.{add_job}
use Rattle.wk_table_rules.specs.JobTable.{refresh_row}
use Rattle.wk_wiki_rules.specs.Jobs.{has_refresh}
use Rattle.wk_wiki_rules.specs.States.{title_at}
use Rattle.wk_tables.specs.Edits.{edit_of}
use Rattle.wk_tables.specs.declared.change.RowEdit.TheVariants.{AddJob}
use Rattle.wk_changes.proofs.HeldJob.{has-is}
use Rattle.wk_changes.proofs.job_rows.push_refresh.Goals as goal

pub returns-then-is_some-clause-edits : goal.returns-then-is_some-clause-edits
returns-then-is_some-clause-edits c lists next same =
    let is = has-is c.args.jobs.now.lists c.args.page in
    let has : has_refresh lists c.args.page ≡ true = cc in
    rw has (sym (append-nil (map edit_of c.args.edits.now.items)))

pub returns-then-is_some-clause-number : goal.returns-then-is_some-clause-number
returns-then-is_some-clause-number c lists next same =
    let is = has-is c.args.jobs.now.lists c.args.page in
    let has : has_refresh lists c.args.page ≡ true = cc in
    rw has (sym next)

pub returns-clause-edits : goal.returns-clause-edits
returns-clause-edits c lists next same =
    let is = has-is c.args.jobs.now.lists c.args.page in
    let has : has_refresh lists c.args.page ≡ false = cc in
    let edits = map edit_of c.args.edits.now.items in
    rw has
    (ap (map edit_of) c.in_ok-push.ensures.items
    ∙ (map-append edit_of c.args.edits.now.items (AddJob c.in_ok-row.row ∷ [])
    ∙ (ap (λ (row : JobColumns). edits ++ add_job row ∷ []) c.in_ok-row.ensures
    ∙ ap (λ (n : ℕ). edits ++ add_job (refresh_row n (title_at c.args.revs.now.history c.args.page)) ∷ []) (sym next))))

pub returns-clause-number : goal.returns-clause-number
returns-clause-number c lists next same =
    let is = has-is c.args.jobs.now.lists c.args.page in
    let has : has_refresh lists c.args.page ≡ false = cc in
    rw has (ap (λ (n : ℕ). n + 1) (sym next))
