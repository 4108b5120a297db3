-- What the parts of a `Live` stand for together.
use Rattle.std.specs.Prelude.{◌≡◌, length}
use Rattle.wk_live.specs.HeldState.{HeldState}
use Rattle.wk_live.specs.declared.live.Live.TheInside.{Inside}

abbrev pub held : Inside → HeldState
held l = record {
  state = record { history = l.revs.history; stored = l.index.stored; jobs = l.jobs.lists };
  room = record { revisions = l.revs.spare; pages = l.index.spare; refreshes = l.jobs.refresh_room; fans = l.jobs.fan_room };
}

-- each page has its stored rows
abbrev pub IsHeld : Inside → Type 0
IsHeld l = length l.index.stored ≡ length l.revs.history.pages
