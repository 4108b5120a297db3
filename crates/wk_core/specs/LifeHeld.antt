-- What a life holds.
use Rattle.std.specs.Prelude.{◌≡◌, ℕ, ◌+◌, ◌≤◌, length}
use Rattle.wk_page_rules.specs.Verdict.{max_journal}
use Rattle.wk_wiki_rules.specs.Entries.{entries_from}
use Rattle.wk_wiki_rules.specs.Room.{tickets_out}
use Rattle.wk_life_laws.specs.Lives.{Life, IsLife, journal_of}
use Rattle.wk_live.specs.HeldState.{Rooms}

-- what a wiki keeps from its opening on, for how much more the state has room, and for how many entries more the journal
-- has, beside those by which the tickets that are out come in
pub record LifeHeld : Type 0 where
  pub life : Life
  pub room : Rooms
  pub spare : ℕ

-- The facts of what is kept: those of the rules, a limit of the journal that is within the full one, entries that name the
-- revisions in their order, and the room that there is for more.
pub record KeepsLife (held : LifeHeld) (capacity : ℕ) : Type 0 where
  pub life : IsLife held.life
  pub few : held.life.limits.journal ≤ max_journal
  pub named : held.life.entries ≡ entries_from (held.life.kept.revisions + 1) (journal_of held.life)
  pub room : held.spare + (length held.life.entries + tickets_out held.life.state) ≤ capacity
