-- A save whose text was transformed before it was judged (MediaWiki's Help:Substitution).
use Rattle.std.specs.Prelude.{◌≡◌, ℕ, List, Some}
use Rattle.wk_text_rules.specs.Titles.{PageTitle}
use Rattle.wk_page_rules.specs.Kept.{kept}
use Rattle.wk_page_rules.specs.Verdict.{EditAsked, real_title}
use Rattle.wk_wiki_rules.specs.States.{State}
use Rattle.wk_wiki_rules.specs.Events.{Event, Save}
use Rattle.wk_request_rules.specs.Requests.{Ask, edit}
use Rattle.wk_answer_rules.specs.Transforms.{transformed}

-- An edit is asked for, and this is the save of the page that it names: of what this text becomes in this state, as a page keeps it.
pub record IsSubstitutedSave (ask : Ask) (state : State) (text : List ℕ) (moment : ℕ) (event : Event) : Type 0 where
  pub asked : EditAsked
  pub edits : ask ≡ edit asked
  pub title : PageTitle
  pub named : real_title asked.title ≡ Some title
  pub saves : event ≡ Save title (Some (kept (transformed state text))) moment
