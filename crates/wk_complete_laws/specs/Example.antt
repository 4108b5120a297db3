-- A small wiki, which began empty, over a whole store: the page A is saved, its refresh is claimed and comes in, and the page is
-- deleted. And what one of its callers has seen of it (own).
use Rattle.std.specs.Prelude.{ℕ, Bool, pos, true, false, List, [], ◌∷◌, codes, Option, Some, None}
use Rattle.atomic_table.specs.Seated.{TableId}
use Rattle.wk_text_rules.specs.Titles.{PageTitle}
use Rattle.wk_table_rules.specs.Rows.{StoreTables}
use Rattle.wk_page_rules.specs.Verdict.{EditAsked, full_limits}
use Rattle.wk_page_rules.specs.PageRows.{no_rows}
use Rattle.wk_view_rules.specs.Expansions.{no_counters}
use Rattle.wk_view_rules.specs.Plans.{done, need}
use Rattle.wk_view_rules.specs.Views.{Expanded, reads, view}
use Rattle.wk_view_rules.specs.Worlds.{World, of_world}
use Rattle.wk_wiki_rules.specs.States.{State, no_state, world_of}
use Rattle.wk_wiki_rules.specs.Events.{Event, Save, Claim, Done}
use Rattle.wk_wiki_rules.specs.Claims.{ClaimOutcome}
use Rattle.wk_wiki_rules.specs.Passes.{PassSeen}
use Rattle.wk_wiki_rules.specs.Starts.{Start}
use Rattle.wk_wiki_rules.specs.Tables.{tables_of}
use Rattle.wk_wiki_rules.specs.declared.Entry.TheVariants as entry
use Rattle.wk_request_rules.specs.Requests.{ParsedRequest, edit, parse, valid}
use Rattle.wk_answer_rules.specs.Values.{ApiReply}
use Rattle.wk_life_laws.specs.Lives.{Life}
use Rattle.wk_life_laws.specs.Next.{begun, new_start}
use Rattle.wk_session_rules.specs.Replies.{answer_at}
use Rattle.wk_expand.specs.Drafts.{DraftShown}
use Rattle.wk_core.specs.Seen.{WikiSeen, seen as wiki_seen}
use Rattle.wk_turn.specs.Told.{Begun, Story}

-- ---- its states

abbrev pub title_a : PageTitle
title_a = record { ns = pos 0; key = codes "A" }

abbrev pub save_a : Event
save_a = Save title_a (Some (codes "x")) 11

abbrev pub delete_a : Event
delete_a = Save title_a None 12

-- the state behind the save
abbrev pub saved_a : State
saved_a = record {
  history = record {
    revisions = record { page = 1; parent = 0; moment = 11; text = Some (codes "x") } ∷ [];
    pages = record { title = title_a; current = 1 } ∷ [];
  };
  stored = no_rows ∷ [];
  jobs = record { refreshes = record { number = 1; page = 1; ticket = None } ∷ []; fans = []; next = 2 };
}

-- behind the claim
abbrev pub claimed_a : State
claimed_a = record saved_a { jobs = record { refreshes = record { number = 1; page = 1; ticket = Some 2 } ∷ []; fans = []; next = 2 } }

-- where the refresh has come in
abbrev pub refreshed_a : State
refreshed_a = record saved_a { jobs = record { refreshes = []; fans = []; next = 2 } }

-- behind the deletion
abbrev pub deleted_a : State
deleted_a = record {
  history = record {
    revisions = record { page = 1; parent = 0; moment = 11; text = Some (codes "x") } ∷ record { page = 1; parent = 1; moment = 12; text = None } ∷ [];
    pages = record { title = title_a; current = 0 } ∷ [];
  };
  stored = no_rows ∷ [];
  jobs = record { refreshes = record { number = 2; page = 1; ticket = None } ∷ []; fans = []; next = 3 };
}

-- ---- what it keeps

abbrev pub empty_life : Life
empty_life = begun no_state full_limits true

abbrev pub saved_life : Life
saved_life = record empty_life { entries = entry.Save 1 ∷ []; state = saved_a }

abbrev pub claimed_life : Life
claimed_life = record empty_life { entries = entry.Save 1 ∷ entry.Claim ∷ []; state = claimed_a }

abbrev pub refreshed_life : Life
refreshed_life = record empty_life { entries = entry.Save 1 ∷ entry.Claim ∷ entry.Done 2 ∷ []; state = refreshed_a }

abbrev pub deleted_life : Life
deleted_life = record empty_life { entries = entry.Save 1 ∷ entry.Claim ∷ entry.Done 2 ∷ entry.Save 2 ∷ []; state = deleted_a }

-- ---- what is seen of it, over a keeper in memory, which is seen as its tables: it tells them, is whole, and never fails

abbrev pub always_whole : StoreTables → Bool
always_whole tables = true

abbrev pub tells_all : StoreTables → Option StoreTables
tells_all tables = Some tables

abbrev pub never_failed : StoreTables → ℕ
never_failed tables = 0

abbrev pub wiki_of : Life → WikiSeen StoreTables
wiki_of life = wiki_seen always_whole tells_all never_failed life (tables_of life.state)

abbrev pub whole_start : Start
whole_start = record (new_start no_state full_limits true) { tells = true; failed = Some 0 }

-- ---- the calls

-- the edit that saves the page
abbrev pub edit_asked_of_a : EditAsked
edit_asked_of_a = record { title = codes "A"; body = Some (codes "x"); base = None; create_only = false; no_create = false }

-- the ticket of the claim
abbrev pub ticket_a : ClaimOutcome
ticket_a = record { ticket = 2; title = title_a }

-- what a page expands to in a world
abbrev pub expanded_in : World → PageTitle → Expanded
expanded_in pages title = elim (view (of_world pages) title) [
  | done expanded answers ↦ expanded
  | need wanted kind answers ↦ record { out = []; counters = no_counters }
]

-- the draft of the page behind the claim
abbrev pub draft_a : DraftShown
draft_a = record {
  page = title_a;
  given = None;
  expanded = expanded_in (world_of claimed_a) title_a;
  reads = reads (of_world (world_of claimed_a)) title_a;
}

-- ---- the same wiki under the turn

-- how a turn began that is over it
abbrev pub shared_by : TableId → Begun Start
shared_by turn = record { id = turn; start = whole_start }

-- a pass that is free, has seen this journal, and made the entries at these places
abbrev pub pass_of : TableId → List Event → List ℕ → Story Start Event
pass_of turn journal own = record { turn = turn; start = Some whole_start; seen = journal; own = own; held = None }

-- the pass of the caller that makes each of the calls, before them, behind the claim, and where the refresh has come in
abbrev pub pass_before : TableId → Story Start Event
pass_before turn = pass_of turn [] []

abbrev pub pass_claimed : TableId → Story Start Event
pass_claimed turn = pass_of turn (save_a ∷ Claim ∷ []) (0 ∷ 1 ∷ [])

abbrev pub pass_refreshed : TableId → Story Start Event
pass_refreshed turn = pass_of turn (save_a ∷ Claim ∷ Done 2 ∷ []) (0 ∷ 1 ∷ 2 ∷ [])

-- ---- what a caller has seen, before the save and behind it

abbrev pub seen_before : PassSeen
seen_before = record { start = whole_start; journal = []; own = [] }

abbrev pub seen_behind : PassSeen
seen_behind = record { start = whole_start; journal = save_a ∷ []; own = 0 ∷ [] }

-- ---- what it asks, and what it is answered

abbrev pub edit_of_a : ParsedRequest
edit_of_a = valid (record { least = 0; ask = edit edit_asked_of_a; subst = false })

abbrev pub parse_of_a : ParsedRequest
parse_of_a = valid (record { least = 1; ask = parse (codes "A"); subst = false })

abbrev pub reply_to_edit : ApiReply
reply_to_edit = (answer_at seen_behind no_state 0 (11 ∷ []) edit_of_a).reply

abbrev pub reply_to_parse : ApiReply
reply_to_parse = (answer_at seen_behind saved_a 1 [] parse_of_a).reply
