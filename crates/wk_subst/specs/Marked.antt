-- What was read, with its marks.
use Rattle.std.specs.Prelude.{◌≡◌, List, map}
use Rattle.wk_view_rules.specs.Worlds.{IsSeen, Seen}
use Rattle.wk_expand.specs.Drafts.{with_mark}
use Rattle.wk_expand.specs.declared.answer.Read.{Read}

-- the reads have their marks, and none is there twice
pub record AreMarked (seen : Seen) (marked : List Read) : Type 0 where
  pub marks : marked ≡ map with_mark seen
  pub is_seen : IsSeen seen
