-- The tickets that are out (own).
use Rattle.std.specs.Prelude.{◌≡◌, ℕ, Option, option_map, None, Some}
use Rattle.wk_page_rules.specs.History.{text_of_revision}
use Rattle.wk_view_rules.specs.Worlds.{IsHonest}
use Rattle.wk_wiki_rules.specs.Jobs.{page_held_by}
use Rattle.wk_wiki_rules.specs.States.{State, title_at}
use Rattle.wk_wiki_rules.specs.Claims.{ClaimOutcome}
use Rattle.wk_expand.specs.Drafts.{DraftShown}

-- the ticket is out: a job is claimed by it, and its page has the ticket's title
pub record IsOut (state : State) (ticket : ClaimOutcome) : Type 0 where
  pub page : ℕ
  pub held : page_held_by state.jobs ticket.ticket ≡ Some page
  pub titled : title_at state.history page ≡ ticket.title

-- the ticket that is out with this number, where a job is claimed by it
abbrev pub ticket_out : State → ℕ → Option ClaimOutcome
ticket_out state number = option_map (λ page. record { ticket = number; title = title_at state.history page }) (page_held_by state.jobs number)

-- The draft is of the ticket's page and of its own text, and each text that was read for it is the text of its revision.
pub record IsDraftFor (state : State) (ticket : ClaimOutcome) (draft : DraftShown) : Type 0 where
  pub page : draft.page ≡ ticket.title
  pub own_text : draft.given ≡ None
  pub honest : IsHonest (text_of_revision state.history) draft.reads
