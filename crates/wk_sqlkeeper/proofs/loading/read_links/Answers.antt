use Rattle.wk_sqlkeeper.proofs.loading.read_links.Goals as goal

pub returns-clause-all : goal.returns-clause-all
returns-clause-all g c plain clean = record {
  read = c.in_ok-rows.rows.items;
  all = rw c.in_ok-rows.was at (c.read_all.ensures.all plain clean);
  same = c.sort_links.ensures.same;
  sorted = c.sort_links.ensures.sorted;
}
