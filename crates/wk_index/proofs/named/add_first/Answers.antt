use Rattle.std.proofs.Common.{◌∙◌}
use Rattle.wk_index.proofs.NamedLaws.{alone}
use Rattle.wk_index.proofs.named.add_first.Goals as goal

pub returns-clause-there : goal.returns-clause-there
returns-clause-there c = c.in_ok-add_set.ensures.there c.args.page (c.in_ok-pages.ensures.0 c.args.page ∙ alone c.args.page)
