use Rattle.std.proofs.Common.{ℕ, subst}
use Rattle.wk_wiki_rules.specs.Entries.{closes}
use Rattle.wk_turn.specs.Journal.{IsOpen}
use Rattle.wk_readers.specs.Readers.{ReaderSeen}
use Rattle.wk_readers.proofs.ReaderLaws.{right-entered}
use Rattle.wk_readers.proofs.reader.Reader.enter.Goals as goal

pub invariant_of-self : goal.invariant_of-self
invariant_of-self g c = record { right = right-entered c.self.inside.pass c.enter.new.pass _ c.self.inside.cache.entries c.enter.ensures.pass c.self.invariant.right; knows = tt }

pub returns-clause-still_open : goal.returns-clause-still_open
returns-clause-still_open g c =
    let journal = c.enter.result.value.journal in
    subst (λ (r : ReaderSeen). (p : ℕ) → IsOpen closes r.pass.seen r.pass.own p → IsOpen closes journal r.pass.own p) c.self.view_is c.enter.ensures.still_open
