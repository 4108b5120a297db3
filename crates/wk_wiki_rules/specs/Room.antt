-- Whether a journal has room for what a call would make (own). A ticket that is out has its room already: that of the
-- event by which it comes in again.
use Rattle.std.specs.Prelude.{ℕ, ◌+◌, ◌≤◌, Bool, nat_lt}
use Rattle.wk_page_rules.specs.Verdict.{MostHeld, is_journal_full}
use Rattle.wk_wiki_rules.specs.Jobs.{left}
use Rattle.wk_wiki_rules.specs.States.{State}
use Rattle.wk_wiki_rules.specs.Verdicts.{journal_use}

-- how many tickets are out: as many as jobs are claimed
abbrev pub tickets_out : State → ℕ
tickets_out state = (left state.jobs).claimed

-- A claim needs room for two events: its own, and the one by which its ticket comes in again.
abbrev pub is_claim_refused : MostHeld → State → ℕ → Bool
is_claim_refused most state journal = nat_lt most.journal (journal + tickets_out state + 2)

-- a fan is refused where the journal is full, as a save is
abbrev pub is_fan_refused : MostHeld → State → ℕ → Bool
is_fan_refused most state journal = is_journal_full most (journal_use state journal)

-- a journal of this length, and an event for each ticket that is out, are within the limit
abbrev pub HasRoom : MostHeld → State → ℕ → Type 0
HasRoom most state journal = journal + tickets_out state ≤ most.journal
