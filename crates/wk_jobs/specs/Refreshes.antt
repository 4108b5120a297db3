-- What is held of the refresh jobs.
use Rattle.std.specs.Prelude.{◌≡◌, ℕ, ◌+◌, ◌≤◌, map, nat_eq, vec_len, vec_capacity}
use Rattle.std.specs.List.{IsDistinct}
use Rattle.std.specs.HashMap.{get, spare}
use Rattle.std.specs.VecDeque.{deque_len, deque_capacity}
use Rattle.wk_jobs.specs.Entries.{entries, number_of}
use Rattle.wk_jobs.specs.HeldRefreshes.{HeldRefreshes}
use Rattle.wk_jobs.specs.declared.refreshes.Refreshes.TheInside.{Inside}

abbrev pub held_refreshes : Inside → HeldRefreshes
held_refreshes r = record { jobs = entries r.claimed.items r.queued.items; spare = r.spare }

-- A page has one job. The map has the number of each page's job. There is room for as many jobs more as are spare, and
-- for each job both among the claimed ones and among the queued ones.
pub record KeepsRefreshes (r : Inside) : Type 0 where
  pub one : IsDistinct nat_eq (map (λ job. job.page) (entries r.claimed.items r.queued.items))
  pub numbers : (page : ℕ) → get nat_eq r.numbers page ≡ number_of (entries r.claimed.items r.queued.items) page
  pub claimed_room : r.spare + (vec_len r.claimed + deque_len r.queued) ≤ vec_capacity r.claimed
  pub queued_room : r.spare + (vec_len r.claimed + deque_len r.queued) ≤ deque_capacity r.queued
  pub numbers_room : r.spare ≤ spare r.numbers
