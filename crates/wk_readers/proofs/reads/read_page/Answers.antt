use Rattle.wk_readers.proofs.ReaderLaws.{entries-shown, front-entry, front-read, right-found}
use Rattle.wk_cache.specs.Entries.{to_front}
use Rattle.wk_readers.proofs.reads.read_page.Goals as goal

pub invariant_of-reader : goal.invariant_of-reader
invariant_of-reader g c = record { right = right-found c.reader.inside.pass c.reader.inside.cache c.args.reader.now c.reader.view_is c.reader.invariant.right c.args.title.now c.found.new.cache c.in-Some.ensures.front; knows = c.reader.invariant.knows }

pub read_kept-requires-clause-entry : goal.read_kept-requires-clause-entry
read_kept-requires-clause-entry g c = front-entry c.args.title.now c.reader.inside.cache c.found.new.cache c.in-Some.kept c.in-Some.ensures.front c.in-Some.ensures.found

pub invariant_of-reader-in-None : goal.invariant_of-reader-in-None
invariant_of-reader-in-None g c = record { right = right-found c.reader.inside.pass c.reader.inside.cache c.args.reader.now c.reader.view_is c.reader.invariant.right c.args.title.now c.found.new.cache c.in-None.ensures.front; knows = c.reader.invariant.knows }

pub returns-in-Some-clause-uses : goal.returns-in-Some-clause-uses
returns-in-Some-clause-uses g c =
    (front-read c.args.shared.now c.args.title.now c.args.least c.args.reader.now _ c.read_kept.new.reader c.read_kept.result
    (entries-shown c.reader.inside.pass c.reader.inside.cache c.args.reader.now c.reader.view_is c.found.new.cache (to_front c.args.title.now) c.in-Some.ensures.front) c.read_kept.ensures).uses

pub returns-in-None-clause-uses : goal.returns-in-None-clause-uses
returns-in-None-clause-uses g c =
    (front-read c.args.shared.now c.args.title.now c.args.least c.args.reader.now _ c.read_new.new.reader c.read_new.result
    (entries-shown c.reader.inside.pass c.reader.inside.cache c.args.reader.now c.reader.view_is c.found.new.cache (to_front c.args.title.now) c.in-None.ensures.front) c.read_new.ensures).uses
