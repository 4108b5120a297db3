-- What the frames of a log do (sqlite.org/fileformat2.html#walformat).
use Rattle.std.specs.Prelude.{◌≡◌, ◌≢◌, ◌+◌, ℕ, true, List, length}
use Rattle.sqlite_wal.specs.Format.{be32, commit_size, IsFrame}
use Rattle.wk_wal.specs.declared.frames.Frames.{Frames}

-- The frame ends a transaction that is whole: all before it fit, and so does it.
pub record Ends (frames : Frames) (head frame : List ℕ) : Type 0 where
  pub so_far : frames.fits ≡ true
  pub long : length frame ≡ 24 + be32 head 8
  pub fits : IsFrame head frames.sum frame
  pub commits : commit_size frame ≢ 0
