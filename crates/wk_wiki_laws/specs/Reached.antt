-- The states that calls with full limits reach (own: each event is one that a call makes, and the limits are those of
-- good tables).
use Rattle.std.specs.Prelude.{◌≡◌, ℕ, ◌≤◌, Some}
use Rattle.wk_page_rules.specs.Verdict.{MostHeld, max_pages, max_texts}
use Rattle.wk_table_rules.specs.Rows.{StoreTables}
use Rattle.wk_table_rules.specs.GoodStore.{IsGood}
use Rattle.wk_wiki_rules.specs.States.{State, no_state}
use Rattle.wk_wiki_rules.specs.Events.{Event, step_by}
use Rattle.wk_wiki_rules.specs.Lives.{reopened, opened}
use Rattle.wk_wiki_rules.specs.Calls.{IsMade}

-- The limits of pages and of texts are at most the full ones, which good tables have. How many revisions and events
-- there may be plays no part.
pub record IsWithinFull (most : MostHeld) : Type 0 where
  pub pages : most.pages ≤ max_pages
  pub text : most.text ≤ max_texts

-- A state that an empty wiki, or one that is opened over good tables, reaches by events that calls make and by restarts, over any
-- number of lives. A fan may serve any number of pages.
pub data IsReached : State → Type 0 where
  empty : IsReached no_state
  loaded : (tables : StoreTables) → IsGood tables → IsReached (opened tables)
  stepped : {most : MostHeld} {state next : State} {journal : ℕ} {event : Event} (served : ℕ)
      → IsReached state → IsWithinFull most → IsMade most state journal event → step_by served state journal event ≡ Some next
      → IsReached next
  restarted : {state : State} → IsReached state → IsReached (reopened state)
