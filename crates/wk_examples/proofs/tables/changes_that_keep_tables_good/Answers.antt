use Rattle.std.proofs.Common.{◌∷◌, [], Some, refl, lit≤, codes}
use Rattle.wk_table_rules.specs.Computing.{computing}
use Rattle.wk_page_rules.specs.declared.Reach.TheVariants.{Text, Both}
use Rattle.wk_page_rules.specs.PageRows.{no_rows}
use Rattle.wk_table_rules.specs.JobTable.{fan_row, refresh_row}
use Rattle.wk_table_laws.specs.Premises.{nothing, saves_page, adds_page, sets_rows, adds_job, sets_job, drops_job, raises_version}
use Rattle.wk_examples.specs.Stores.{deletion, main, member, page, page_a, revision, title_a, title_b, title_t}
use Rattle.wk_examples.proofs.tables.changes_that_keep_tables_good.Goals as goal

pub returns-clause-new_page : goal.returns-clause-new_page
unfolding computing
returns-clause-new_page c =
    adds_page {revision = revision 4 3 0 (codes "c")} {page = page 3 (main (codes "C")) 4 1}
    (record { number = refl; of_page = refl; parent = refl; gone = refl; len = refl; short = lit≤ tt; room = lit≤ tt; latest = refl; page_len = refl })
    (record { number = refl; few = lit≤ tt; title = refl })
    (adds_job {job = refresh_row 5 (main (codes "C"))} refl
    (sets_job {old = fan_row 4 title_t (record { reach = Text; cursor = 1 })} {job = fan_row 4 title_t (record { reach = Both; cursor = 0 })}
    (record { there = refl; same = refl; params = refl }) nothing))

pub returns-clause-deletion : goal.returns-clause-deletion
unfolding computing
returns-clause-deletion c =
    saves_page {revision = deletion 4 1 1} {old = page_a} {page = page 1 title_a 0 0}
    (record { number = refl; of_page = refl; parent = refl; gone = refl; len = refl; short = lit≤ tt; room = lit≤ tt; latest = refl; page_len = refl })
    (record { there = refl; title = refl })
    nothing

pub returns-clause-refresh : goal.returns-clause-refresh
unfolding computing
returns-clause-refresh c =
    sets_rows {page = 1} {rows = record no_rows { templates = title_a ∷ title_t ∷ []; members = member (codes "Z") ∷ []; redirect = Some title_b }}
    (record { there = refl; version = refl; templates = (refl, (refl, tt)); exists = tt; links = tt; members = (refl, tt); redirect = refl })
    (drops_job refl nothing)

pub returns-clause-version : goal.returns-clause-version
unfolding computing
returns-clause-version c = raises_version (adds_job {job = refresh_row 5 title_b} refl nothing)
