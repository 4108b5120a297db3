-- The wikis of the worked examples on reports.
use Rattle.std.specs.Prelude.{ℕ, pos, List, [], ◌∷◌, codes, map, Some, None}
use Rattle.std.specs.List.{enumerate_from}
use Rattle.wk_text_rules.specs.Titles.{PageTitle}
use Rattle.wk_page_rules.specs.History.{Page, Revision, History}
use Rattle.wk_page_rules.specs.PageRows.{PageRows, no_rows}
use Rattle.wk_view_rules.specs.Rows.{rows}
use Rattle.wk_wiki_rules.specs.Jobs.{no_jobs}
use Rattle.wk_wiki_rules.specs.Events.{Event, Save, Claim, Done}
use Rattle.wk_wiki_rules.specs.States.{State, world_of}
use Rattle.wk_report_rules.specs.declared.Report.{Report}
use Rattle.wk_report_rules.specs.Pages.{stored_pages}
use Rattle.wk_report_rules.specs.Reports.{report_lines}
use Rattle.wk_report_rules.specs.Texts.{report_text}

-- ---- short forms

abbrev pub main : List ℕ → PageTitle
main key = record { ns = pos 0; key = key }

abbrev pub talk : List ℕ → PageTitle
talk key = record { ns = pos 1; key = key }

abbrev pub template : List ℕ → PageTitle
template key = record { ns = pos 10; key = key }

-- a title and a text
abbrev pub written : PageTitle → List ℕ → PageTitle × List ℕ
written title text = (title, text)

abbrev pub first_revision : ℕ × (PageTitle × List ℕ) → Revision
first_revision (number, page) = record { page = number; parent = 0; moment = 7; text = Some page.1 }

abbrev pub first_page : ℕ × (PageTitle × List ℕ) → Page
first_page (number, page) = record { title = page.0; current = number }

-- these pages, each saved once
abbrev pub saved_once : List (PageTitle × List ℕ) → History
saved_once pages = record { revisions = map first_revision (enumerate_from 1 pages); pages = map first_page (enumerate_from 1 pages) }

-- these pages, each saved once and refreshed, with no job left
abbrev pub refreshed : List (PageTitle × List ℕ) → State
refreshed pages =
    let history = saved_once pages in
    let empty : State = record { history = history; stored = []; jobs = no_jobs } in
    record { history = history; stored = map (λ page. rows (world_of empty) page.0) pages; jobs = no_jobs }

-- the rows of a page that links to these titles
abbrev pub linking : List PageTitle → PageRows
linking titles = record no_rows { links = titles }

-- what is printed of a report with at most so many lines
abbrev pub printed : Report → State → ℕ → List ℕ
printed which state most = report_text (report_lines which (world_of state) (stored_pages state) most)

-- ---- wikis

abbrev pub page_a : PageTitle
page_a = main (codes "A")

abbrev pub page_d : PageTitle
page_d = main (codes "D")

-- A links to two missing pages, D to one of them and to A
abbrev pub linked : State
linked = refreshed (written page_a (codes "[[B]][[C]]") ∷ written page_d (codes "[[C]][[A]]") ∷ [])

-- a redirect to a redirect to a missing page
abbrev pub redirected : State
redirected = refreshed (written (main (codes "X")) (codes "#REDIRECT [[Y]]") ∷ written (main (codes "Y")) (codes "#REDIRECT [[Z]]") ∷ [])

-- a redirect to itself
abbrev pub circular : State
circular = refreshed (written (main (codes "X")) (codes "#REDIRECT [[X]]") ∷ [])

-- A links to itself and to D, which a talk page includes; the talk page links to A
abbrev pub talked_of : State
talked_of = refreshed (written page_a (codes "[[A]]") ∷ written page_d (codes "{{A}}") ∷ written (talk (codes "D")) (codes "{{:D}}") ∷ [])

-- A is in a category, and D is in none
abbrev pub filed : State
filed = refreshed (written page_a (codes "[[D]][[Category:X]]") ∷ written page_d (codes "[[A]]") ∷ [])

-- D was deleted, and isn't refreshed yet: the rows of its last text stand
abbrev pub deleted : State
deleted = record {
  history = record {
    revisions =
        record { page = 1; parent = 0; moment = 7; text = Some [] }
        ∷ record { page = 2; parent = 0; moment = 8; text = Some (codes "[[A]][[B]]") }
        ∷ record { page = 2; parent = 2; moment = 9; text = None } ∷ [];
    pages = record { title = page_a; current = 1 } ∷ record { title = page_d; current = 0 } ∷ [];
  };
  stored = no_rows ∷ linking (page_a ∷ main (codes "B") ∷ []) ∷ [];
  jobs = no_jobs;
}

-- and behind its refresh
abbrev pub deleted_refreshed : State
deleted_refreshed = record deleted { stored = no_rows ∷ no_rows ∷ [] }

-- the stored rows of a page have a missing title twice
abbrev pub twice : State
twice = record {
  history = saved_once (written page_a [] ∷ []);
  stored = linking (main (codes "B") ∷ main (codes "B") ∷ []) ∷ [];
  jobs = no_jobs;
}

-- two pages that are saved and refreshed from an empty wiki on
abbrev pub life : List Event
life =
    Save page_a (Some (codes "[[B]][[C]]")) 7 ∷ Claim ∷ Done 2
    ∷ Save page_d (Some (codes "[[C]][[A]]")) 8 ∷ Claim ∷ Done 5 ∷ []

-- and the state that this leads to
abbrev pub lived : State
lived = record {
  history = record {
    revisions =
        record { page = 1; parent = 0; moment = 7; text = Some (codes "[[B]][[C]]") }
        ∷ record { page = 2; parent = 0; moment = 8; text = Some (codes "[[C]][[A]]") } ∷ [];
    pages = record { title = page_a; current = 1 } ∷ record { title = page_d; current = 2 } ∷ [];
  };
  stored = linking (main (codes "B") ∷ main (codes "C") ∷ []) ∷ linking (page_a ∷ main (codes "C") ∷ []) ∷ [];
  jobs = record { refreshes = []; fans = []; next = 3 };
}
