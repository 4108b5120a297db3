use Rattle.std.proofs.Common.{refl, ap, ◌∙◌}
use Rattle.wk_cache.specs.Entries.{CacheShown, entry_of}
use Rattle.wk_cache.proofs.Lists.{front-found}
use Rattle.wk_cache.proofs.cache.Cache.get.Goals as goal

pub returns : goal.returns
returns c = (
  (refl, λ _. tt, c.promote.ensures),
  record {
    front = tt;
    value = c.peek.ensures ∙ (ap (λ (s : CacheShown). entry_of c.args.page.now s.entries) c.promote.ensures ∙ front-found c.args.page.now c.args.self.now.entries);
  },
)
