-- The sets by which the pages of an index are found.
use Rattle.std.specs.Prelude.{ℕ, List}
use Rattle.wk_page_rules.specs.PageRows.{PageRows}
use Rattle.wk_index.specs.declared.found.Found.{Found}
use Rattle.wk_index.specs.declared.named.Kind.TheVariants.{Included, Mentioned, Linked}
use Rattle.wk_index.specs.Entries.{FindsEntries, FindsRowsEntries, KeptEntries, SparesEntries}
use Rattle.wk_index.specs.Named.{Finds, FindsBy, Kept, Spares}

-- each page is found by each title of its rows, and by each category with its sort key
pub record FindsAll (stored : List PageRows) (found : Found) : Type 0 where
  pub included : Finds Included stored found.included
  pub mentioned : Finds Mentioned stored found.mentioned
  pub linked : Finds Linked stored found.linked
  pub members : FindsEntries stored found.members.keys

-- the page is found by each title of these rows, and by each category with its sort key
pub record FindsRows (rows : PageRows) (page : ℕ) (found : Found) : Type 0 where
  pub included : FindsBy Included rows page found.included
  pub mentioned : FindsBy Mentioned rows page found.mentioned
  pub linked : FindsBy Linked rows page found.linked
  pub members : FindsRowsEntries rows page found.members.keys

-- what was found is found still
pub record KeepsAll (old new : Found) : Type 0 where
  pub included : Kept old.included new.included
  pub mentioned : Kept old.mentioned new.mentioned
  pub linked : Kept old.linked new.linked
  pub members : KeptEntries old.members.keys new.members.keys

-- what was found is found still, but for the page by what these rows don't have
pub record SparesAll (rows : PageRows) (page : ℕ) (old new : Found) : Type 0 where
  pub included : Spares Included rows page old.included new.included
  pub mentioned : Spares Mentioned rows page old.mentioned new.mentioned
  pub linked : Spares Linked rows page old.linked new.linked
  pub members : SparesEntries rows page old.members.keys new.members.keys
