-- The wikis of the worked examples on feeds.
use Rattle.std.specs.Prelude.{pos, List, [], ◌∷◌, codes, Some, None}
use Rattle.wk_text_rules.specs.Titles.{PageTitle}
use Rattle.wk_page_rules.specs.History.{History}
use Rattle.wk_page_rules.specs.PageRows.{PageRows, no_rows}
use Rattle.wk_wiki_rules.specs.Events.{Event, Save, Claim, Done}
use Rattle.wk_wiki_rules.specs.States.{State, no_state}
use Rattle.wk_feed_rules.specs.Taking.{FeedRun}

abbrev pub page_a : PageTitle
page_a = record { ns = pos 0; key = codes "A" }

-- behind the start of an empty wiki
abbrev pub empty_run : FeedRun
empty_run = record { from = no_state; events = []; state = no_state }

-- A was saved once, at moment 7
abbrev pub saved_once : History
saved_once = record {
  revisions = record { page = 1; parent = 0; moment = 7; text = Some (codes "x") } ∷ [];
  pages = record { title = page_a; current = 1 } ∷ [];
}

abbrev pub saved : State
saved = record {
  history = saved_once;
  stored = no_rows ∷ [];
  jobs = record { refreshes = record { number = 1; page = 1; ticket = None } ∷ []; fans = []; next = 2 };
}

-- A is saved, and its job is claimed
abbrev pub claimed_events : List Event
claimed_events = Save page_a (Some (codes "x")) 7 ∷ Claim ∷ []

abbrev pub claimed : State
claimed = record {
  history = saved_once;
  stored = no_rows ∷ [];
  jobs = record { refreshes = record { number = 1; page = 1; ticket = Some 2 } ∷ []; fans = []; next = 2 };
}

-- and it is refreshed
abbrev pub refreshed_events : List Event
refreshed_events = Save page_a (Some (codes "x")) 7 ∷ Claim ∷ Done 2 ∷ []

abbrev pub refreshed : State
refreshed = record {
  history = saved_once;
  stored = no_rows ∷ [];
  jobs = record { refreshes = []; fans = []; next = 2 };
}

-- A is saved and deleted
abbrev pub deleted_events : List Event
deleted_events = Save page_a (Some (codes "x")) 7 ∷ Save page_a None 8 ∷ []

abbrev pub deleted : State
deleted = record {
  history = record {
    revisions =
        record { page = 1; parent = 0; moment = 7; text = Some (codes "x") }
        ∷ record { page = 1; parent = 1; moment = 8; text = None } ∷ [];
    pages = record { title = page_a; current = 0 } ∷ [];
  };
  stored = no_rows ∷ [];
  jobs = record { refreshes = record { number = 1; page = 1; ticket = None } ∷ []; fans = []; next = 2 };
}

-- the rows of a page that links to B
abbrev pub linking : PageRows
linking = record no_rows { links = record { ns = pos 0; key = codes "B" } ∷ [] }

-- A with rows, and a job that waits or has this ticket
abbrev pub stored : State
stored = record {
  history = saved_once;
  stored = linking ∷ [];
  jobs = record { refreshes = record { number = 4; page = 1; ticket = None } ∷ []; fans = []; next = 5 };
}

abbrev pub stored_claimed : State
stored_claimed = record stored { jobs = record { refreshes = record { number = 4; page = 1; ticket = Some 1 } ∷ []; fans = []; next = 5 } }
