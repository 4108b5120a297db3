use Rattle.std.proofs.Common.{ap}
use Rattle.wk_cache.specs.Entries.{CacheShown}
use Rattle.wk_readers.proofs.ReaderLaws.{right-none}
use Rattle.wk_readers.proofs.reader.Reader.new.Goals as goal

pub invariant_of-result : goal.invariant_of-result
invariant_of-result g c = record { right = right-none c.args.pass c.in-Ok-new.cache.entries (ap (λ (k : CacheShown). k.entries) c.in-Ok-new.ensures); knows = tt }
