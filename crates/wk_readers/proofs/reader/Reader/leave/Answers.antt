use Rattle.std.proofs.Common.{subst, sym}
use Rattle.wk_wiki_rules.specs.Entries.{closes}
use Rattle.wk_turn.specs.Journal.{ClosesOwn}
use Rattle.wk_readers.specs.Readers.{ReaderSeen}
use Rattle.wk_readers.proofs.ReaderLaws.{knows-left, right-left}
use Rattle.wk_readers.proofs.reader.Reader.leave.Goals as goal

pub invariant_of-self : goal.invariant_of-self
invariant_of-self g c = record {
  right = right-left c.self.inside.pass c.leave.new.pass _ _ c.self.inside.cache.entries c.leave.ensures.pass c.leave.ensures.seen c.self.invariant.right;
  knows = knows-left c.self.inside.pass c.self.inside.cache c.args.self.now c.self.view_is c.args.shared.now c.requires.turn c.leave.new.pass c.args.held.value.start _ _ c.args.held.value.state c.is_idle-idle.result c.leave.ensures.pass
      c.requires.start c.facts.ensures.run c.is_idle-idle.ensures;
}

pub leave-requires-clause-closes : goal.leave-requires-clause-closes
leave-requires-clause-closes g c =
    let before = c.args.held.before.value.journal in
    let after = c.args.held.value.journal in
    subst (λ (r : ReaderSeen). ClosesOwn closes before after r.pass.own) (sym c.self.view_is) c.requires.closes
