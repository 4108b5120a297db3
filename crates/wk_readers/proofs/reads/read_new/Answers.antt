use Rattle.wk_readers.proofs.ReaderLaws.{anew-read, checked-read}
use Rattle.wk_readers.proofs.reads.read_new.Goals as goal

pub returns-in-Current : goal.returns-in-Current
returns-in-Current g c = checked-read c.args.shared.now c.args.title.now c.args.least c.args.reader.now c.check_new.new.self c.in-Current.read c.in-Current.ensures.pass c.in-Current.ensures.check

pub returns-in-Stale : goal.returns-in-Stale
returns-in-Stale g c =
    anew-read c.args.shared.now c.args.title.now c.args.least c.args.reader.now c.check_new.new.self c.draft_page.new.self c.draft_page.result c.in-Stale.ensures.pass c.in-Stale.ensures.check.1 c.in-Stale.ensures.check.0
    c.draft_page.ensures.pass c.draft_page.ensures.read
