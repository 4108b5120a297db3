-- What a cache keeps its entries under.
use Rattle.std.specs.Prelude.{◌≡◌, List, [], map, Option, Some, None, Contains}
use Rattle.wk_text_rules.specs.Titles.{PageTitle}
use Rattle.lru.specs.LruCache.{LruCache}
use Rattle.wk_cache.specs.Entries.{CacheShown}
use Rattle.wk_cache.specs.declared.kept.Kept.{Kept}

-- each entry is kept under its draft's page
abbrev pub AreKeyed : List (PageTitle × Kept) → Type 0
AreKeyed entries = (e : PageTitle × Kept) → Contains entries e → e.0 ≡ e.1.draft.page

-- the entries alone
abbrev pub drafts : List (PageTitle × Kept) → List Kept
drafts entries = map (λ e. e.1) entries

abbrev pub IsKeyed : Option (LruCache PageTitle Kept) → Type 0
IsKeyed None = Unit {0}
IsKeyed (Some kept) = AreKeyed kept.entries

-- a cache that keeps no entry has no place for one
abbrev pub shown : Option (LruCache PageTitle Kept) → CacheShown
shown None = record { most = 0; entries = [] }
shown (Some kept) = record { most = kept.cap; entries = drafts kept.entries }
