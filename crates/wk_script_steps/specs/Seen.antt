-- A wiki with its tickets as a script's rules see them (own).
use Rattle.std.specs.Prelude.{List, map}
use Rattle.std.specs.List.{AllByRecursion}
use Rattle.wk_page_rules.specs.History.{text_of_revision}
use Rattle.wk_view_rules.specs.Worlds.{IsHonest}
use Rattle.wk_table_laws.specs.InOrder.{Rises}
use Rattle.wk_wiki_rules.specs.States.{State}
use Rattle.wk_wiki_rules.specs.Claims.{ClaimOutcome}
use Rattle.wk_core.specs.Seen.{WikiSeen}
use Rattle.wk_core.specs.Tickets.{IsOut}
use Rattle.wk_script_rules.specs.WikiScripts.{TicketDraft, WikiScript}

-- the wiki's life, with the tickets that are out
abbrev pub script_of : {K : Type 0} → WikiSeen K → List TicketDraft → WikiScript
script_of wiki drafts = record { start = wiki.start.state; journal = wiki.journal; state = wiki.state; drafts = drafts }

-- the ticket of a draft
abbrev pub claim_of : TicketDraft → ClaimOutcome
claim_of draft = record { ticket = draft.ticket; title = draft.title }

-- The ticket is out, of the draft's page, and each text that was read for it is the text of its revision.
pub record IsFit (state : State) (draft : TicketDraft) : Type 0 where
  pub out : IsOut state (claim_of draft)
  pub honest : IsHonest (text_of_revision state.history) draft.seen

-- Each of the tickets is out, with its draft, and their numbers rise.
pub record Holds (state : State) (drafts : List TicketDraft) : Type 0 where
  pub each : AllByRecursion (IsFit state) drafts
  pub rises : Rises (map (λ draft. draft.ticket) drafts)
