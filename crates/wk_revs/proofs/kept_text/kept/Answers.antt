use Rattle.std.proofs.Common.{rules}
use Rattle.wk_page_rules.specs.Kept.{kept}
use Rattle.wk_revs.proofs.kept_text.kept.Goals as goal

pub returns : goal.returns
unfolding kept
returns c = search rules
