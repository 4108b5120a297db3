use Rattle.std.proofs.Common.{rules}
use Rattle.wk_page_rules.specs.History.{saved}
use Rattle.wk_revs.proofs.revs.Revs.add.Goals as goal

pub returns-clause-history : goal.returns-clause-history
unfolding saved
returns-clause-history c = search rules
