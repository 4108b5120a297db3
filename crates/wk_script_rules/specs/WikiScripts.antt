-- What a script works on: the wiki's present life, and the drafts of the tickets that are out (own).
use Rattle.std.specs.Prelude.{ℕ, ◌==◌, not, List, [], ◌∷◌, ◌++◌, length, map, filter, find, fold, Option, unwrap_or, if◌then◌else◌}
use Rattle.wk_text_rules.specs.Titles.{PageTitle}
use Rattle.wk_view_rules.specs.Plans.{Outcome}
use Rattle.wk_view_rules.specs.Views.{Expanded, view}
use Rattle.wk_view_rules.specs.Worlds.{Read, Seen, of_seen}
use Rattle.wk_wiki_rules.specs.Steps.{by_number}
use Rattle.wk_wiki_rules.specs.States.{State}
use Rattle.wk_wiki_rules.specs.Events.{Event, Back, step}
use Rattle.wk_wiki_rules.specs.Lives.{reopened}

-- a ticket that is out, the title of its page, and what was read for it so far
pub record TicketDraft : Type 0 where
  pub ticket : ℕ
  pub title : PageTitle
  pub seen : Seen

pub record WikiScript : Type 0 where
  -- the state in which the present life began
  pub start : State
  -- the events since then
  pub journal : List Event
  -- the state that they gave
  pub state : State
  -- the tickets that are out
  pub drafts : List TicketDraft

-- a life that begins in this state
abbrev pub script_from : State → WikiScript
script_from state = record { start = state; journal = []; state = state; drafts = [] }

-- the journal's length
abbrev pub point_of : WikiScript → ℕ
point_of s = length s.journal

-- after an event; one that isn't possible changes no state, and none such is met
abbrev pub after_event : WikiScript → Event → WikiScript
after_event s event = record s {
  journal = s.journal ++ event ∷ [];
  state = unwrap_or (step s.state (point_of s) event) s.state;
}

-- ---- tickets

-- the draft of a ticket that is out
abbrev pub draft_of : WikiScript → ℕ → Option TicketDraft
draft_of s ticket = find (λ draft. draft.ticket == ticket) s.drafts

-- what the draft's page expands to, by what was read so far
abbrev pub drafted : TicketDraft → Outcome Expanded
drafted draft = view (of_seen draft.seen) draft.title

abbrev pub with_draft : WikiScript → TicketDraft → WikiScript
with_draft s draft = record s { drafts = s.drafts ++ draft ∷ [] }

abbrev pub read_further : ℕ → Read → TicketDraft → TicketDraft
read_further ticket read draft =
    if draft.ticket == ticket then record draft { seen = draft.seen ++ read ∷ [] } else draft

-- the draft of this ticket has one read more
abbrev pub with_read : WikiScript → ℕ → Read → WikiScript
with_read s ticket read = record s { drafts = map (read_further ticket read) s.drafts }

-- the ticket is out no more
abbrev pub without_draft : WikiScript → ℕ → WikiScript
without_draft s ticket = record s { drafts = filter (λ draft. not (draft.ticket == ticket)) s.drafts }

-- the ticket's page is given back
abbrev pub given_back_by : WikiScript → ℕ → WikiScript
given_back_by s ticket = without_draft (after_event s (Back ticket)) ticket

-- all tickets that are out are given back, in the order of their numbers
abbrev pub all_given_back : WikiScript → WikiScript
all_given_back s = fold given_back_by s (map (λ draft. draft.ticket) (by_number (λ draft. draft.ticket) s.drafts))

-- after a restart: the tickets come in, and a new life begins
abbrev pub restarted : WikiScript → WikiScript
restarted s = script_from (reopened (all_given_back s).state)
