-- Drafts of a world.
use Rattle.std.specs.Prelude.{◌≡◌, ℕ, List, Option}
use Rattle.wk_text_rules.specs.Titles.{PageTitle}
use Rattle.wk_view_rules.specs.Plans.{done}
use Rattle.wk_view_rules.specs.Worlds.{Agrees, World, of_world}
use Rattle.wk_wiki_rules.specs.Passes.{drafted_in}
use Rattle.wk_expand.specs.Drafts.{DraftShown}

-- The draft is what the page, or the given text, expands to in this world, and its reads are answered so there.
pub record IsPresent (pages : World) (page : PageTitle) (given : Option (List ℕ)) (d : DraftShown) : Type 0 where
  pub page_is : d.page ≡ page
  pub given_is : d.given ≡ given
  pub drafted : drafted_in pages page given ≡ done d.expanded d.reads
  pub answered : Agrees (of_world pages) d.reads
