-- What a `Live` stands for: the state of a wiki, and for how much more there is room.
use Rattle.std.specs.Prelude.{ℕ, ◌≤◌}
use Rattle.wk_wiki_rules.specs.States.{State}

-- for how many more there is room
pub record Rooms : Type 0 where
  pub revisions : ℕ
  pub pages : ℕ
  pub refreshes : ℕ
  pub fans : ℕ

pub record HeldState : Type 0 where
  pub state : State
  pub room : Rooms

-- there is room for one save, and for so many refresh jobs
pub record HasRoomFor (jobs : ℕ) (room : Rooms) : Type 0 where
  pub revisions : 1 ≤ room.revisions
  pub pages : 1 ≤ room.pages
  pub refreshes : jobs ≤ room.refreshes
  pub fans : 1 ≤ room.fans
