use Rattle.wk_tables.proofs.JobLaws.{row-emptied, row-taken, row-taken-keeps, row-missing}
use Rattle.wk_tables.proofs.job_list.take_row.Goals as goal

pub returns-in-Some-clause-rows : goal.returns-in-Some-clause-rows
returns-in-Some-clause-rows c = row-taken c.args.slots.now c.args.is_in_order c.requires c.args.number c.in-Some.place c.in-Some.ensures

pub returns-in-Some-clause-keeps : goal.returns-in-Some-clause-keeps
returns-in-Some-clause-keeps c = row-taken-keeps c.args.slots.now c.args.is_in_order c.requires c.args.number c.in-Some.place c.in-Some.ensures

pub returns-in-Some-clause-emptied : goal.returns-in-Some-clause-emptied
returns-in-Some-clause-emptied c = row-emptied c.args.slots.now c.args.is_in_order c.requires c.args.number c.in-Some.place c.in-Some.ensures

pub returns-in-None-clause-rows : goal.returns-in-None-clause-rows
returns-in-None-clause-rows c = row-missing c.args.slots.now c.args.is_in_order c.requires c.args.number c.in-None.ensures
