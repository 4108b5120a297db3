-- The draft of a ticket that is out (own).
use Rattle.std.specs.Prelude.{◌≡◌, ◌==◌, ℕ, Bool, not, List, [], ◌∷◌, ◌++◌, filter, Option, Some, None}
use Rattle.wk_text_rules.specs.Titles.{PageTitle}
use Rattle.wk_view_rules.specs.Worlds.{Agrees, Read, Seen, of_seen}
use Rattle.wk_wiki_rules.specs.Claims.{ClaimOutcome}
use Rattle.wk_expand.specs.Machines.{MachineShown}
use Rattle.wk_script_rules.specs.WikiScripts.{TicketDraft}

-- nothing was read yet
abbrev pub begun : ClaimOutcome → TicketDraft
begun claim = record { ticket = claim.ticket; title = claim.title; seen = [] }

-- a draft that goes on is of this page's own text, and what was read answers what it has read
abbrev pub IsReady : PageTitle → Seen → Option MachineShown → Type 0
IsReady title seen None = Unit {0}
IsReady title seen (Some m) = (m.page ≡ title) × (m.given ≡ None) × Agrees (of_seen seen) m.reads

-- the ticket has this number
abbrev pub has_number : ℕ → TicketDraft → Bool
has_number number draft = draft.ticket == number

-- the tickets of other numbers
abbrev pub others : ℕ → List TicketDraft → List TicketDraft
others number drafts = filter (λ draft. not (has_number number draft)) drafts

-- the draft, for which this was read too
abbrev pub longer : TicketDraft → Read → TicketDraft
longer draft read = record draft { seen = draft.seen ++ read ∷ [] }
