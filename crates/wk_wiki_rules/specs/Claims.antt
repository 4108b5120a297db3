-- What is told of a claim (own): its ticket, and the title whose rows are to be computed anew.
use Rattle.std.specs.Prelude.{ℕ, ◌+◌, Option, option_map}
use Rattle.wk_text_rules.specs.Titles.{PageTitle}
use Rattle.wk_wiki_rules.specs.Jobs.{first_queued}
use Rattle.wk_wiki_rules.specs.States.{State, title_at}

pub record ClaimOutcome : Type 0 where
  -- the number of the claim's entry in the journal, from 1
  pub ticket : ℕ
  pub title : PageTitle

-- what a claim tells behind a journal of this length; nothing where no refresh job is queued
abbrev pub claim_outcome : State → ℕ → Option ClaimOutcome
claim_outcome state journal =
    option_map (λ page. record { ticket = journal + 1; title = title_at state.history page }) (first_queued state.jobs)
