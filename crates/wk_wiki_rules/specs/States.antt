-- What a wiki's state is, and the pages that it shows (MediaWiki's Manual:Page table and Manual:Job queue; that link
-- rows are kept apart from the pages that they are of, and may be behind them, is MediaWiki's too).
use Rattle.std.specs.Prelude.{ℕ, pos, ◌-◌, ◌==◌, List, [], slice_get, Option, None, unwrap_or, option_map, if◌then◌else◌}
use Rattle.wk_text_rules.specs.Titles.{PageTitle}
use Rattle.wk_page_rules.specs.History.{History, Page, no_history, current_revision, current_text}
use Rattle.wk_page_rules.specs.PageRows.{PageRows, no_rows}
use Rattle.wk_view_rules.specs.Worlds.{World}
use Rattle.wk_wiki_rules.specs.Jobs.{JobLists, no_jobs}

-- What a wiki is at one moment.
pub record State : Type 0 where
  -- the revisions and the pages
  pub history : History
  -- the link rows that are stored of each page, in the order of the pages
  pub stored : List PageRows
  -- the refresh jobs and the fan jobs, and the number of the next new job
  pub jobs : JobLists

-- a wiki in which nothing was ever saved
abbrev pub no_state : State
no_state = record { history = no_history; stored = []; jobs = no_jobs }

-- ---- pages by their numbers

-- the page with this number
abbrev pub page_at : History → ℕ → Option Page
page_at h number = if number == 0 then None else slice_get h.pages (number - 1)

-- the title of the page with this number; the empty title, which no page has, where there is no such page
abbrev pub title_at : History → ℕ → PageTitle
title_at h number = unwrap_or (option_map (λ page. page.title) (page_at h number)) (record { ns = pos 0; key = [] })

-- the link rows that are stored of the page with this number
abbrev pub stored_at : State → ℕ → PageRows
stored_at state number = if number == 0 then no_rows else unwrap_or (slice_get state.stored (number - 1)) no_rows

-- ---- the world

-- Each page that exists, with its current revision and text. A page whose last revision is a deletion is missing.
abbrev pub current_pages : History → World
current_pages h title = option_map (λ text. record { revision = current_revision h title; text = text }) (current_text h title)

-- the world that expansions meet in this state
abbrev pub world_of : State → World
world_of state = current_pages state.history
