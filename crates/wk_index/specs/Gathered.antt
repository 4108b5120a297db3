-- What the pages are found by, before the ordered sets are made of it.
use Rattle.std.specs.Prelude.{ℕ, Bool, List}
use Rattle.std.specs.List.{list_any}
use Rattle.wk_text_rules.specs.Titles.{PageTitle, title_eq}
use Rattle.wk_page_rules.specs.PageRows.{PageRows}
use Rattle.wk_index.specs.declared.found.Found.{Found}
use Rattle.wk_index.specs.declared.gathered.Gathered.{Gathered}
use Rattle.wk_index.specs.declared.named.Kind.TheVariants.{Included, Linked}
use Rattle.wk_index.specs.Entries.{FindsEntries, FindsRowsEntries, KeptEntries}
use Rattle.wk_index.specs.Named.{FindsIn, FindsRowsIn, lists}
use Rattle.wk_index.specs.Places.{AddsGathered, AreTitled, Grows, gathers}

-- the rows test the existence of the title
abbrev pub tests : PageRows → PageTitle → Bool
tests rows title = list_any (title_eq title) rows.exists

-- the pages stand at the places of their titles
pub record AreAllTitled (g : Gathered) : Type 0 where
  pub included : AreTitled g.included
  pub tested : AreTitled g.tested
  pub linked : AreTitled g.linked

-- each page is found by each title of its rows, and by each category with its sort key
pub record GathersAll (stored : List PageRows) (g : Gathered) : Type 0 where
  pub included : FindsIn (lists Included) gathers stored g.included
  pub tested : FindsIn tests gathers stored g.tested
  pub linked : FindsIn (lists Linked) gathers stored g.linked
  pub members : FindsEntries stored g.members.items
  pub titled : AreAllTitled g

-- the page is found by each title of these rows, and by each category with its sort key
pub record GathersRows (rows : PageRows) (page : ℕ) (g : Gathered) : Type 0 where
  pub included : FindsRowsIn (lists Included) gathers rows page g.included
  pub tested : FindsRowsIn tests gathers rows page g.tested
  pub linked : FindsRowsIn (lists Linked) gathers rows page g.linked
  pub members : FindsRowsEntries rows page g.members.items

-- what was found is found still
pub record GrowsAll (old new : Gathered) : Type 0 where
  pub included : Grows old.included new.included
  pub tested : Grows old.tested new.tested
  pub linked : Grows old.linked new.linked
  pub members : KeptEntries old.members.items new.members.items

-- what was gathered is found by the sets
pub record Joins (g : Gathered) (found : Found) : Type 0 where
  pub included : AddsGathered g.included found.included
  pub both : AddsGathered g.included found.mentioned
  pub tested : AddsGathered g.tested found.mentioned
  pub linked : AddsGathered g.linked found.linked
  pub members : KeptEntries g.members.items found.members.keys
