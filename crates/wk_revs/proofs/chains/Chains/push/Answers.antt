use Rattle.wk_revs.proofs.ChainLaws.{own_newest}
use Rattle.wk_revs.proofs.chains.Chains.push.Goals as goal

pub link_behind-link-requires-clause-own : goal.link_behind-link-requires-clause-own
link_behind-link-requires-clause-own c =
    own_newest _ _ _ _ _ _ _ c.self.invariant.0 c.deref-2.ensures.value c.deref.ensures.value c.requires.some c.newest_of-before.ensures
