-- Saves that are accepted.
use Rattle.std.specs.Prelude.{◌≡◌, ℕ, List, Option, length}
use Rattle.wk_text_rules.specs.Titles.{PageTitle}
use Rattle.wk_page_rules.specs.Verdict.{EditAsked, accept}
use Rattle.wk_wiki_rules.specs.Verdicts.{verdict_in}
use Rattle.wk_life_laws.specs.Lives.{Life, journal_of}

-- some edit is accepted as a save of this title and this text
pub record IsAccepted (life : Life) (title : PageTitle) (text : Option (List ℕ)) : Type 0 where
  pub edit : EditAsked
  pub is : verdict_in life.limits life.state (length (journal_of life)) edit ≡ accept title text
