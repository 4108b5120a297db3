-- What the command `replica` has done by its end (own).
use Rattle.std.specs.Prelude.{◌≡◌, ℕ, List, [], None}
use Rattle.wk_commands.specs.Followed.{HasFollowed}
use Rattle.wk_commands.specs.Served.{GivesAtMost}
use Rattle.wk_commands.specs.declared.replicas.ReplicaEnd.{ReplicaEnd}
use Rattle.wk_script_runs.specs.Outside.{Outside}
use Rattle.wk_cli.specs.Statuses.{bad_of_replica, status_of_replica}
use Rattle.wk_cli.specs.Works.{DoorSeen}
use Rattle.wk_cli.specs.declared.ends.Finish.{Finish}

-- The feed that the input gives was followed, at an address, of whose door at most so many links were taken. No store was opened, and no
-- moment taken. A bad line, or the one that isn't there, is told by its number.
pub record IsFollowedBy {K L : Type 0} (address : List ℕ) (most : ℕ) (door door_later : DoorSeen L) (before after : Outside) (finish : Finish K) : Type 0 where
  pub end : ReplicaEnd
  pub followed : HasFollowed address most door.told door_later.told door.faults door_later.faults before.rest after.rest before.taken after.taken end
  pub links : GivesAtMost address most door.told door_later.told
  pub no_moment : after.moments ≡ before.moments
  pub status_is : finish.status ≡ status_of_replica end
  pub bad_is : finish.bad ≡ bad_of_replica end
  pub no_point : finish.points.items ≡ []
  pub no_store : finish.store ≡ None
