use Rattle.std.proofs.Common.{arith}
use Rattle.wk_listings.proofs.Last.{some_more}
use Rattle.wk_listings.proofs.taken.last_number.Goals as goal

pub returns : goal.returns
returns c = some_more c.args.limit c.args.found.now (omega arith) (omega arith)
