use Rattle.wk_tables.proofs.job_list.JobList.add.Goals as goal

pub push_row-self-inside-requires-clause-keeps : goal.push_row-self-inside-requires-clause-keeps
push_row-self-inside-requires-clause-keeps c = c.drop_empty_end.ensures.keeps c.self.inside.is_in_order c.self.invariant.0
