use Rattle.std.proofs.Common.{subst, sym}
use Rattle.wk_life_laws.specs.Caches.{IsLastingEntry}
use Rattle.wk_cache.specs.Entries.{entry_kept}
use Rattle.wk_core.specs.Seen.{WikiSeen}
use Rattle.wk_core.proofs.CacheFacts.{put-lasting}
use Rattle.wk_core.proofs.wiki.Wiki.keep.Goals as goal

pub invariant_of-self : goal.invariant_of-self
invariant_of-self g c =
    let lasting = subst (λ (w : WikiSeen g.row.K.Denot). IsLastingEntry w.state (entry_kept c.args.kept)) (sym c.self.view_is) c.requires.lasting in
    record {
      tables = c.self.invariant.tables;
      cache =
          put-lasting c.self.inside.life.life.state c.args.kept c.self.inside.cache c.put.new.self c.put.result c.put.ensures.ok c.put.ensures.err lasting c.self.invariant.cache;
    }
