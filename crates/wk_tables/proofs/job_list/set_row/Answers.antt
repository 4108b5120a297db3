use Rattle.std.proofs.Common.{◌∙◌, length, ap}
use Rattle.wk_tables.specs.Jobs.{rows_in}
use Rattle.wk_tables.proofs.JobLaws.{row-set, row-set-keeps, row-absent, with_job-as_many}
use Rattle.wk_tables.proofs.job_list.set_row.Goals as goal

pub returns-in-Some-clause-rows : goal.returns-in-Some-clause-rows
returns-in-Some-clause-rows c = row-set c.args.slots.now c.args.is_in_order c.requires c.args.row c.row.inside.job_id c.in-Some.place (ap (λ r. r.job_id) c.row.view_is) c.in-Some.ensures

pub returns-in-Some-clause-keeps : goal.returns-in-Some-clause-keeps
returns-in-Some-clause-keeps c = row-set-keeps c.args.slots.now c.args.is_in_order c.requires c.args.row c.row.inside.job_id c.in-Some.place (ap (λ r. r.job_id) c.row.view_is) c.in-Some.ensures

pub returns-in_default-clause-rows : goal.returns-in_default-clause-rows
returns-in_default-clause-rows c = row-absent c.args.slots.now c.args.is_in_order c.requires c.args.row c.row.inside.job_id (ap (λ r. r.job_id) c.row.view_is) c.in_default.ensures

pub returns-in-Some-clause-as_many : goal.returns-in-Some-clause-as_many
returns-in-Some-clause-as_many c =
    ap length (row-set c.args.slots.now c.args.is_in_order c.requires c.args.row c.row.inside.job_id c.in-Some.place (ap (λ r. r.job_id) c.row.view_is) c.in-Some.ensures)
    ∙ with_job-as_many (rows_in c.args.slots.now) c.args.row
