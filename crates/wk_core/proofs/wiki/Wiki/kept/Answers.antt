use Rattle.std.proofs.Common.{ap, subst, sym}
use Rattle.wk_cache.specs.Entries.{CacheShown}
use Rattle.wk_core.specs.Cached.{AreLasting}
use Rattle.wk_core.specs.Seen.{WikiSeen}
use Rattle.wk_core.proofs.CacheFacts.{found-lasting, front-lasting, lasting-same}
use Rattle.wk_core.proofs.wiki.Wiki.kept.Goals as goal

pub invariant_of-self : goal.invariant_of-self
invariant_of-self g c = record {
  tables = c.self.invariant.tables;
  cache =
      subst (λ (s : CacheShown). AreLasting c.self.inside.life.life.state s.entries) (sym c.find.ensures.front)
      (front-lasting c.self.inside.life.life.state c.args.page.now c.self.inside.cache.entries c.self.invariant.cache);
}

pub returns-clause-kept : goal.returns-clause-kept
returns-clause-kept g c =
    let entries = c.self.inside.cache.entries in
    let same = sym (ap (λ (w : WikiSeen g.row.K.Denot). w.state) c.self.view_is) in
    found-lasting c.args.self.now.state c.args.page.now entries c.find.result c.find.ensures.found
    (lasting-same c.self.inside.life.life.state c.args.self.now.state entries same c.self.invariant.cache)
