use Rattle.std.proofs.Common.{subst, sym}
use Rattle.wk_life_laws.specs.Caches.{IsLastingEntry}
use Rattle.wk_cache.specs.Entries.{entry_kept}
use Rattle.wk_expand.specs.Drafts.{DraftShown}
use Rattle.wk_shared.specs.Sought.{kept_of}
use Rattle.wk_shared.proofs.keeping.keep.Goals as goal

pub keep-refused-requires : goal.keep-refused-requires
keep-refused-requires g c = record { lasting = subst (λ (d : DraftShown). IsLastingEntry c.args.wiki.now.state (entry_kept (kept_of d c.args.point c.args.id))) (sym c.in-Ok.ensures) c.requires }
