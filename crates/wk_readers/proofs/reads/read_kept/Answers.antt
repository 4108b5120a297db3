use Rattle.wk_readers.proofs.ReaderLaws.{anew-read, checked-read, served-read}
use Rattle.wk_readers.proofs.reads.read_kept.Goals as goal

pub returns-then-is_served : goal.returns-then-is_served
returns-then-is_served g c =
    served-read c.args.shared.now c.args.title.now c.args.least c.args.reader.now c.serve.new.self c.serve.result c.requires.free c.facts.ensures (record {
      entry = c.args.kept;
      found = c.requires.entry;
      few = c.is_served.ensures.few c.if-is_served.true;
      reached = c.is_served.ensures.reached c.if-is_served.true;
      fresh = c.is_served.ensures.fresh c.if-is_served.true;
      answered = c.serve.ensures.read;
      left = c.serve.ensures.left;
    })

pub returns-in-Stale : goal.returns-in-Stale
returns-in-Stale g c =
    anew-read c.args.shared.now c.args.title.now c.args.least c.args.reader.now c.check.new.self c.draft_page.new.self c.draft_page.result c.in-Stale.ensures.pass c.in-Stale.ensures.check.1 c.in-Stale.ensures.check.0
    c.draft_page.ensures.pass c.draft_page.ensures.read

pub returns-in-Current : goal.returns-in-Current
returns-in-Current g c = checked-read c.args.shared.now c.args.title.now c.args.least c.args.reader.now c.check.new.self c.in-Current.read c.in-Current.ensures.pass c.in-Current.ensures.check
