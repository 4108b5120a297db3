-- The job lists as contracts see them.
use Rattle.wk_jobs.specs.declared.jobs.Jobs.TheInside.{Inside}
use Rattle.wk_jobs.specs.HeldJobs.{HeldJobs}

abbrev pub held : Inside → HeldJobs
held j = record {
  lists = record { refreshes = j.refreshes.jobs; fans = j.fans.jobs; next = j.next };
  refresh_room = j.refreshes.spare;
  fan_room = j.fans.spare;
}
