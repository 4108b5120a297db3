-- What a cache ends as, once a reference into it has ended.
use Rattle.std.specs.Prelude.{◌≡◌, ⊤}
use Rattle.std.specs.Borrow.{Fml, MutBor, follows_so}
use Rattle.wk_text_rules.specs.Titles.{PageTitle}
use mathlib.Core.Option.{none}
use Rattle.wk_cache.specs.Entries.{CacheShown, to_front}
use Rattle.wk_cache.specs.contracts.cache.Cache.{the_row}

-- the page's entry is before all others
abbrev pub EndsInFront : MutBor CacheShown → PageTitle → Fml
EndsInFront cache page =
    follows_so the_row the_row cache.ghost_name none (λ _ _. ⊤) (λ n. n ≡ record cache.now { entries = to_front page cache.now.entries })
