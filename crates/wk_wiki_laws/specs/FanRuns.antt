-- Fans one after the other, with no other event between, from one that serves a title's fan job to the one with which
-- the job goes (own).
use Rattle.std.specs.Prelude.{◌≡◌, ℕ, ◌+◌, List, ◌++◌, length, Some}
use Rattle.wk_wiki_rules.specs.Jobs.{FanEntry, first_fan}
use Rattle.wk_wiki_rules.specs.Steps.{next_served}
use Rattle.wk_wiki_rules.specs.States.{State}
use Rattle.wk_wiki_rules.specs.Events.{Fan, step_by}

-- Fans that serve these pages, in this order, from a state behind a journal of this length to another state.
pub data FanRun : ℕ → State → ℕ → List ℕ → State → Type 0 where
  -- this fan serves the last pages, and there is one fan job less
  ends : {most : ℕ} {state next : State} {journal : ℕ} {fan : FanEntry}
      → first_fan state.jobs ≡ Some fan → step_by most state journal Fan ≡ Some next
      → length next.jobs.fans + 1 ≡ length state.jobs.fans
      → FanRun most state journal (next_served state.stored most fan) next
  -- there are as many fan jobs as before, and the next event is a fan
  goes_on : {most : ℕ} {state next last : State} {journal : ℕ} {fan : FanEntry} {pages : List ℕ}
      → first_fan state.jobs ≡ Some fan → step_by most state journal Fan ≡ Some next
      → length next.jobs.fans ≡ length state.jobs.fans
      → FanRun most next (journal + 1) pages last
      → FanRun most state journal (next_served state.stored most fan ++ pages) last
