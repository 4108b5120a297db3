use Rattle.std.proofs.Common.{Some, ap, ◌∙◌, arith}
use Rattle.wk_listings.proofs.Last.{some_more}
use Rattle.wk_listings.proofs.taken.last_page.Goals as goal

pub returns : goal.returns
returns c = ap Some c.from.ensures ∙ some_more c.args.limit c.args.found.now (omega arith) (omega arith)
