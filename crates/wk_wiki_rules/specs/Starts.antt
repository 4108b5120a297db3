-- How a wiki began: what its journal goes on from, and how that is told by what the wiki keeps (own).
use Rattle.std.specs.Prelude.{ℕ, Bool, ◌==◌, List, length, map, find, take, drop, Option, Some, None}
use Rattle.std.specs.List.{enumerate_from}
use Rattle.wk_page_rules.specs.History.{History, Page, Revision}
use Rattle.wk_page_rules.specs.Verdict.{MostHeld}
use Rattle.wk_page_rules.specs.PageRows.{PageRows}
use Rattle.wk_wiki_rules.specs.Jobs.{JobLists}
use Rattle.wk_wiki_rules.specs.States.{State}

-- How a wiki began. No event changes it.
pub record Start : Type 0 where
  pub state : State
  pub limits : MostHeld
  -- the keeper of the tables can't fail
  pub whole : Bool
  -- the keeper tells its tables
  pub tells : Bool
  -- how often the keeper has failed, where it can't any more
  pub failed : Option ℕ
  -- the point from which on the journal gets no save, where there is one
  pub sealed : Option ℕ

-- ---- the history at the start, by the present one

-- the first revision of a page behind so many revisions
abbrev pub first_later : History → ℕ → ℕ → Option Revision
first_later h revisions page = find (λ revision. revision.page == page) (drop revisions h.revisions)

-- A page as it was when so many revisions stood: its current revision then is the parent of its first later revision, or
-- what it is now where there is no later one.
abbrev pub page_before : History → ℕ → ℕ × Page → Page
page_before h revisions (number, page) = elim (first_later h revisions number) [
  | None ↦ page
  | Some later ↦ record page { current = later.parent }
]

-- the history as it was when so many revisions and so many pages stood
abbrev pub history_before : ℕ → ℕ → History → History
history_before revisions pages h = record {
  revisions = take revisions h.revisions;
  pages = map (page_before h revisions) (enumerate_from 1 (take pages h.pages));
}

-- ---- the state at the start

-- what a wiki keeps of the state at its start: how many revisions and pages stood, and the link rows and the jobs
pub record StartKept : Type 0 where
  pub revisions : ℕ
  pub pages : ℕ
  pub stored : List PageRows
  pub jobs : JobLists

abbrev pub kept_of : State → StartKept
kept_of state = record {
  revisions = length state.history.revisions;
  pages = length state.history.pages;
  stored = state.stored;
  jobs = state.jobs;
}

-- the state at the start, by what is kept of it and by the present history
abbrev pub told_start : StartKept → History → State
told_start kept h = record {
  history = history_before kept.revisions kept.pages h;
  stored = kept.stored;
  jobs = kept.jobs;
}
