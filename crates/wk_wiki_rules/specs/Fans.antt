-- What is told of a fan (own): its title, how many pages it served, and how many refresh jobs it queued for them.
use Rattle.std.specs.Prelude.{ℕ, not, length, count_by, Option, option_map}
use Rattle.wk_text_rules.specs.Titles.{PageTitle}
use Rattle.wk_wiki_rules.specs.Jobs.{FanEntry, first_fan, has_refresh}
use Rattle.wk_wiki_rules.specs.Steps.{next_served}
use Rattle.wk_wiki_rules.specs.States.{State}

pub record FanOutcome : Type 0 where
  pub title : PageTitle
  pub served : ℕ
  -- those of them that had no refresh job
  pub queued : ℕ

-- what is told where this job is served in this state
abbrev pub fan_outcome : ℕ → State → FanEntry → FanOutcome
fan_outcome most state fan =
    let served = next_served state.stored most fan in record {
      title = fan.title;
      served = length served;
      queued = count_by (λ page. not (has_refresh state.jobs page)) served;
    }

-- what the next fan tells; nothing where no fan job stands
abbrev pub next_fan_outcome : ℕ → State → Option FanOutcome
next_fan_outcome most state = option_map (fan_outcome most state) (first_fan state.jobs)
