use Rattle.wk_feed_laws.proofs.Said.{line-said, said-line}
use Rattle.wk_feed_laws.proofs.lines.a_line_is_read_back.Goals as goal

pub returns-clause-written : goal.returns-clause-written
returns-clause-written c = line-said

pub returns-clause-only_so : goal.returns-clause-only_so
returns-clause-only_so c = said-line
