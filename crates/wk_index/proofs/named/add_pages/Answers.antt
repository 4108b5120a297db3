use Rattle.std.proofs.Common.{◌∙◌}
use Rattle.wk_index.proofs.named.add_pages.Goals as goal

pub returns-clause-there : goal.returns-clause-there
returns-clause-there c = λ page there. c.in_ok-add_set.ensures.there page (c.in_ok-pages.ensures.0 page ∙ there)
