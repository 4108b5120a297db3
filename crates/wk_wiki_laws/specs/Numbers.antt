-- How many refresh jobs fans can still add (own).
use Rattle.std.specs.Prelude.{ℕ, ◌-◌, length, sum_by}
use Rattle.wk_wiki_rules.specs.States.{State}

-- the pages above the cursor of each fan job, summed over the fan jobs
abbrev pub pages_ahead : State → ℕ
pages_ahead state = sum_by (λ fan. length state.history.pages - fan.cursor) state.jobs.fans
