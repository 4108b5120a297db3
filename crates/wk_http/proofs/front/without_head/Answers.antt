use Rattle.std.proofs.Common.{arith}
use Rattle.wk_http.proofs.FrontLemmas.{open_without_head, bad_without_head}
use Rattle.wk_http.proofs.front.without_head.Goals as goal

pub returns-then-bytes-lt-MOST_HEAD : goal.returns-then-bytes-lt-MOST_HEAD
returns-then-bytes-lt-MOST_HEAD c = open_without_head c.args.bytes.now c.requires.none (omega arith) (c.requires.open (omega arith))

pub returns-else-bytes-lt-MOST_HEAD : goal.returns-else-bytes-lt-MOST_HEAD
returns-else-bytes-lt-MOST_HEAD c = bad_without_head c.args.bytes.now c.requires.none (omega arith)
