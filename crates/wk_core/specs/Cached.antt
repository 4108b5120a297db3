-- What a wiki keeps of drafts (own).
use Rattle.std.specs.Prelude.{List, Contains, Option}
use Rattle.wk_table_rules.specs.Rows.{StoreTables}
use Rattle.wk_wiki_rules.specs.States.{State}
use Rattle.wk_life_laws.specs.Caches.{IsLastingEntry}
use Rattle.wk_cache.specs.Entries.{entry_kept}
use Rattle.wk_cache.specs.declared.kept.Kept.{Kept}
use Rattle.wk_core.specs.Seen.{IsTold}

-- Each entry lasts: its draft is of its page's own text, each text that was read for it is the text of its revision, and its
-- number is its page's, 0 where the page was read to be missing.
pub record AreLasting (state : State) (entries : List Kept) : Type 0 where
  pub each : (kept : Kept) → Contains entries kept → IsLastingEntry state (entry_kept kept)

-- what a wiki's keeper and its cache are to its state
pub record IsKeeping {K : Type 0} (told : K → Option StoreTables) (state : State) (keeper : K) (entries : List Kept) : Type 0 where
  pub tables : IsTold told state keeper
  pub cache : AreLasting state entries
