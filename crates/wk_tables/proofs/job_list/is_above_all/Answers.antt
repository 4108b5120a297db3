use Rattle.wk_tables.proofs.JobLaws.{above-last}
use Rattle.wk_tables.proofs.job_list.is_above_all.Goals as goal

pub returns-in-Some : goal.returns-in-Some
returns-in-Some c = above-last c.args.number c.args.slots.now c.in-Some.last.now c.requires c.in-Some.ensures.item.3.0 c.in-Some.ensures.item.1
