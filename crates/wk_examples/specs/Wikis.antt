-- The states of the worked examples on wikis, each after one event more.
use Rattle.std.specs.Prelude.{ℕ, List, [], ◌∷◌, ◌++◌, codes, false, Option, Some, None}
use Rattle.wk_text_rules.specs.Titles.{PageTitle}
use Rattle.wk_page_rules.specs.History.{Revision, Page, History}
use Rattle.wk_page_rules.specs.Verdict.{EditAsked, MostHeld}
use Rattle.wk_page_rules.specs.declared.Reach.TheVariants.{Both}
use Rattle.wk_table_rules.specs.Rows.{StoreTables, category_title, no_tables}
use Rattle.wk_page_rules.specs.PageRows.{PageRows, no_rows}
use Rattle.wk_wiki_rules.specs.Jobs.{RefreshEntry, FanEntry, JobLists}
use Rattle.wk_wiki_rules.specs.States.{State}
use Rattle.wk_wiki_rules.specs.Events.{Event, Save, Claim, Done, Back}
use Rattle.wk_examples.specs.Stores.{main, template, title_a, title_b, title_t, page, revision, link, member}
use Rattle.wk_examples.specs.Queues.{waiting, held, fan}

-- ---- short forms

abbrev pub title_p : PageTitle
title_p = main (codes "P")

abbrev pub title_q : PageTitle
title_q = main (codes "Q")

abbrev pub title_u : PageTitle
title_u = template (codes "U")

-- a revision with a text: its page, its parent and its moment
abbrev pub written : ℕ → ℕ → ℕ → List ℕ → Revision
written page parent moment text = record { page = page; parent = parent; moment = moment; text = Some text }

-- a revision that is a deletion
abbrev pub deleted : ℕ → ℕ → ℕ → Revision
deleted page parent moment = record { page = page; parent = parent; moment = moment; text = None }

-- a page and the number of its current revision
abbrev pub at : PageTitle → ℕ → Page
at title current = record { title = title; current = current }

abbrev pub history : List Revision → List Page → History
history revisions pages = record { revisions = revisions; pages = pages }

-- the jobs of both kinds, and the number of the next
abbrev pub jobs : List RefreshEntry → List FanEntry → ℕ → JobLists
jobs refreshes fans next = record { refreshes = refreshes; fans = fans; next = next }

-- the state with other refresh jobs
abbrev pub with_refreshes : State → List RefreshEntry → State
with_refreshes state refreshes =
    record state { jobs = jobs refreshes state.jobs.fans state.jobs.next }

-- ---- a race: P includes two templates, and one of them is saved while P is refreshed

abbrev pub race_1 : State
race_1 = record {
  history = history (written 1 0 11 (codes "{{T}}{{U}}") ∷ []) (at title_p 1 ∷ []);
  stored = no_rows ∷ [];
  jobs = jobs (waiting 1 1 ∷ []) [] 2;
}

abbrev pub race_2 : State
race_2 = record {
  history = history
      (written 1 0 11 (codes "{{T}}{{U}}") ∷ written 2 0 12 (codes "t1") ∷ [])
      (at title_p 1 ∷ at title_t 2 ∷ []);
  stored = no_rows ∷ no_rows ∷ [];
  jobs = jobs (waiting 1 1 ∷ waiting 2 2 ∷ []) [] 3;
}

abbrev pub race_3 : State
race_3 = record {
  history = history
      (written 1 0 11 (codes "{{T}}{{U}}") ∷ written 2 0 12 (codes "t1") ∷ written 3 0 13 (codes "u1") ∷ [])
      (at title_p 1 ∷ at title_t 2 ∷ at title_u 3 ∷ []);
  stored = no_rows ∷ no_rows ∷ no_rows ∷ [];
  jobs = jobs (waiting 1 1 ∷ waiting 2 2 ∷ waiting 3 3 ∷ []) [] 4;
}

abbrev pub race_4 : State
race_4 = with_refreshes race_3 (held 1 1 4 ∷ waiting 2 2 ∷ waiting 3 3 ∷ [])

-- Template:T has its second text. No stored row names it yet, so no fan job is added
abbrev pub race_5 : State
race_5 = record race_4 {
  history = history
      (written 1 0 11 (codes "{{T}}{{U}}") ∷ written 2 0 12 (codes "t1") ∷ written 3 0 13 (codes "u1") ∷ written 2 2 14 (codes "t2") ∷ [])
      (at title_p 1 ∷ at title_t 4 ∷ at title_u 3 ∷ []);
}

abbrev pub race_6 : State
race_6 = with_refreshes race_5 (waiting 2 2 ∷ waiting 3 3 ∷ waiting 1 1 ∷ [])

abbrev pub race_7 : State
race_7 = with_refreshes race_6 (held 2 2 7 ∷ waiting 3 3 ∷ waiting 1 1 ∷ [])

abbrev pub race_8 : State
race_8 = with_refreshes race_7 (waiting 3 3 ∷ waiting 1 1 ∷ [])

abbrev pub race_9 : State
race_9 = with_refreshes race_8 (held 3 3 9 ∷ waiting 1 1 ∷ [])

abbrev pub race_10 : State
race_10 = with_refreshes race_9 (waiting 1 1 ∷ [])

abbrev pub race_11 : State
race_11 = with_refreshes race_10 (held 1 1 11 ∷ [])

abbrev pub includes_both : PageRows
includes_both = record no_rows { templates = title_t ∷ title_u ∷ [] }

abbrev pub race_12 : State
race_12 = record (with_refreshes race_11 []) { stored = includes_both ∷ no_rows ∷ no_rows ∷ [] }

abbrev pub race : List Event
race =
    Save title_p (Some (codes "{{T}}{{U}}")) 11 ∷ Save title_t (Some (codes "t1")) 12 ∷ Save title_u (Some (codes "u1")) 13
    ∷ Claim ∷ Save title_t (Some (codes "t2")) 14 ∷ Back 4 ∷ Claim ∷ Done 7 ∷ Claim ∷ Done 9 ∷ Claim ∷ Done 11 ∷ []

-- ---- a test of existence: P tests whether Q exists, and Q is created and deleted

abbrev pub test : List ℕ
test = codes "{{#ifexist:Q|y|n}}"

abbrev pub tested_1 : State
tested_1 = record {
  history = history (written 1 0 11 test ∷ []) (at title_p 1 ∷ []);
  stored = no_rows ∷ [];
  jobs = jobs (waiting 1 1 ∷ []) [] 2;
}

abbrev pub tested_2 : State
tested_2 = with_refreshes tested_1 (held 1 1 2 ∷ [])

-- a title that is tested is linked too
abbrev pub tests_q : PageRows
tests_q = record no_rows { exists = title_q ∷ []; links = title_q ∷ [] }

abbrev pub tested_3 : State
tested_3 = record (with_refreshes tested_2 []) { stored = tests_q ∷ [] }

abbrev pub tested_4 : State
tested_4 = record {
  history = history (written 1 0 11 test ∷ written 2 0 12 (codes "q") ∷ []) (at title_p 1 ∷ at title_q 2 ∷ []);
  stored = tests_q ∷ no_rows ∷ [];
  jobs = jobs (waiting 2 2 ∷ []) (fan 3 title_q Both 0 ∷ []) 4;
}

abbrev pub tested_5 : State
tested_5 = record tested_4 { jobs = jobs (waiting 2 2 ∷ waiting 4 1 ∷ []) [] 5 }

abbrev pub tested_6 : State
tested_6 = record tested_5 {
  history = history
      (written 1 0 11 test ∷ written 2 0 12 (codes "q") ∷ deleted 2 2 13 ∷ [])
      (at title_p 1 ∷ at title_q 0 ∷ []);
  jobs = jobs (waiting 2 2 ∷ waiting 4 1 ∷ []) (fan 5 title_q Both 0 ∷ []) 6;
}

-- ---- a template of three pages, where a fan serves two: N1, N2 and N3 include Template:T

abbrev pub title_n : List ℕ → PageTitle
title_n number = main (codes "N" ++ number)

abbrev pub includes_t : List ℕ
includes_t = codes "{{T}}"

abbrev pub users_1 : State
users_1 = record {
  history = history (written 1 0 11 includes_t ∷ []) (at (title_n (codes "1")) 1 ∷ []);
  stored = no_rows ∷ [];
  jobs = jobs (waiting 1 1 ∷ []) [] 2;
}

abbrev pub users_2 : State
users_2 = record {
  history = history
      (written 1 0 11 includes_t ∷ written 2 0 11 includes_t ∷ [])
      (at (title_n (codes "1")) 1 ∷ at (title_n (codes "2")) 2 ∷ []);
  stored = no_rows ∷ no_rows ∷ [];
  jobs = jobs (waiting 1 1 ∷ waiting 2 2 ∷ []) [] 3;
}

abbrev pub users_3 : State
users_3 = record {
  history = history
      (written 1 0 11 includes_t ∷ written 2 0 11 includes_t ∷ written 3 0 11 includes_t ∷ [])
      (at (title_n (codes "1")) 1 ∷ at (title_n (codes "2")) 2 ∷ at (title_n (codes "3")) 3 ∷ []);
  stored = no_rows ∷ no_rows ∷ no_rows ∷ [];
  jobs = jobs (waiting 1 1 ∷ waiting 2 2 ∷ waiting 3 3 ∷ []) [] 4;
}

abbrev pub users_4 : State
users_4 = with_refreshes users_3 (held 1 1 4 ∷ waiting 2 2 ∷ waiting 3 3 ∷ [])

-- the template is missing: it stands among the rows, and as a link, since that is what the page shows
abbrev pub misses_t : PageRows
misses_t = record no_rows { templates = title_t ∷ []; links = title_t ∷ [] }

abbrev pub users_5 : State
users_5 = record (with_refreshes users_4 (waiting 2 2 ∷ waiting 3 3 ∷ [])) { stored = misses_t ∷ no_rows ∷ no_rows ∷ [] }

abbrev pub users_6 : State
users_6 = with_refreshes users_5 (held 2 2 6 ∷ waiting 3 3 ∷ [])

abbrev pub users_7 : State
users_7 = record (with_refreshes users_6 (waiting 3 3 ∷ [])) { stored = misses_t ∷ misses_t ∷ no_rows ∷ [] }

abbrev pub users_8 : State
users_8 = with_refreshes users_7 (held 3 3 8 ∷ [])

abbrev pub users_9 : State
users_9 = record (with_refreshes users_8 []) { stored = misses_t ∷ misses_t ∷ misses_t ∷ [] }

-- what leads here
abbrev pub users_journal : List Event
users_journal =
    Save (title_n (codes "1")) (Some includes_t) 11 ∷ Save (title_n (codes "2")) (Some includes_t) 11 ∷ Save (title_n (codes "3")) (Some includes_t) 11
    ∷ Claim ∷ Done 4 ∷ Claim ∷ Done 6 ∷ Claim ∷ Done 8 ∷ []

-- the template is created
abbrev pub users_10 : State
users_10 = record {
  history = history
      (written 1 0 11 includes_t ∷ written 2 0 11 includes_t ∷ written 3 0 11 includes_t ∷ written 4 0 12 (codes "x") ∷ [])
      (at (title_n (codes "1")) 1 ∷ at (title_n (codes "2")) 2 ∷ at (title_n (codes "3")) 3 ∷ at title_t 4 ∷ []);
  stored = misses_t ∷ misses_t ∷ misses_t ∷ no_rows ∷ [];
  jobs = jobs (waiting 4 4 ∷ []) (fan 5 title_t Both 0 ∷ []) 6;
}

abbrev pub users_11 : State
users_11 = record users_10 {
  jobs = jobs (waiting 4 4 ∷ waiting 6 1 ∷ waiting 7 2 ∷ []) (fan 5 title_t Both 2 ∷ []) 8;
}

-- it has another text: its fan job begins anew, and reaches as far as before
abbrev pub users_12 : State
users_12 = record {
  history = history
      (written 1 0 11 includes_t ∷ written 2 0 11 includes_t ∷ written 3 0 11 includes_t ∷ written 4 0 12 (codes "x") ∷ written 4 4 13 (codes "y") ∷ [])
      (at (title_n (codes "1")) 1 ∷ at (title_n (codes "2")) 2 ∷ at (title_n (codes "3")) 3 ∷ at title_t 5 ∷ []);
  stored = misses_t ∷ misses_t ∷ misses_t ∷ no_rows ∷ [];
  jobs = jobs (waiting 4 4 ∷ waiting 6 1 ∷ waiting 7 2 ∷ []) (fan 5 title_t Both 0 ∷ []) 8;
}

abbrev pub users_13 : State
users_13 = record users_12 {
  jobs = jobs (waiting 4 4 ∷ waiting 6 1 ∷ waiting 7 2 ∷ []) (fan 5 title_t Both 2 ∷ []) 8;
}

abbrev pub users_14 : State
users_14 = with_refreshes (record users_13 { jobs = jobs [] [] 9 }) (waiting 4 4 ∷ waiting 6 1 ∷ waiting 7 2 ∷ waiting 8 3 ∷ [])

-- ---- a restart: A is saved, and its job is claimed and comes back

abbrev pub restart_1 : State
restart_1 = record {
  history = history (written 1 0 11 (codes "x") ∷ []) (at title_a 1 ∷ []);
  stored = no_rows ∷ [];
  jobs = jobs (waiting 1 1 ∷ []) [] 2;
}

abbrev pub restart_2 : State
restart_2 = with_refreshes restart_1 (held 1 1 2 ∷ [])

-- after the restart and the claim behind it
abbrev pub restart_3 : State
restart_3 = with_refreshes restart_1 (held 1 1 1 ∷ [])

-- ---- edits

-- an edit of A, with a base
abbrev pub edit_of_a : Option ℕ → List ℕ → EditAsked
edit_of_a base text = record {
  title = codes "a";
  body = Some text;
  base = base;
  create_only = false;
  no_create = false;
}

-- the limits of a small wiki, with a journal of so many events
abbrev pub small : ℕ → MostHeld
small journal = record { pages = 9; revisions = 9; text = 99; journal = journal }

-- ---- links and members: P links to B and is a member of X

abbrev pub members_text : List ℕ
members_text = codes "[[Category:X|k]][[Category:x]][[:Category:X]] [[b]]"

abbrev pub members_1 : State
members_1 = record {
  history = history (written 1 0 11 members_text ∷ []) (at title_p 1 ∷ []);
  stored = no_rows ∷ [];
  jobs = jobs (waiting 1 1 ∷ []) [] 2;
}

abbrev pub members_2 : State
members_2 = with_refreshes members_1 (held 1 1 2 ∷ [])

abbrev pub members_3 : State
members_3 = record (with_refreshes members_2 []) {
  stored = record no_rows {
    links = title_b ∷ category_title (codes "X") ∷ [];
    members = record (member (codes "X")) { sortkey = codes "P" } ∷ [];
  } ∷ [];
}

-- ---- a store of version 1, which has no redirect rows: A is a redirect to B

abbrev pub old_tables : StoreTables
old_tables = record no_tables {
  pages = page 1 title_a 1 15 ∷ [];
  revisions = revision 1 1 0 (codes "#REDIRECT [[B]]") ∷ [];
  pagelinks = link 1 title_b ∷ [];
  version = 1;
}

abbrev pub opened_0 : State
opened_0 = record {
  history = history (written 1 0 7 (codes "#REDIRECT [[B]]") ∷ []) (at title_a 1 ∷ []);
  stored = record no_rows { links = title_b ∷ [] } ∷ [];
  jobs = jobs (waiting 1 1 ∷ []) [] 2;
}

abbrev pub opened_1 : State
opened_1 = with_refreshes opened_0 (held 1 1 1 ∷ [])

abbrev pub opened_2 : State
opened_2 = record (with_refreshes opened_1 []) { stored = record no_rows { links = title_b ∷ []; redirect = Some title_b } ∷ [] }
