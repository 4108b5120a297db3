-- What is kept of a draft.
use Rattle.std.specs.Prelude.{◌≡◌, map}
use Rattle.wk_view_rules.specs.Expansions.{Output}
use Rattle.wk_view_rules.specs.Views.{Expanded}
use Rattle.wk_view_rules.specs.Worlds.{IsSeen}
use Rattle.wk_expand.specs.Answers.{counters_of}
use Rattle.wk_expand.specs.Drafts.{IsDraft, with_mark, turned_by}
use Rattle.wk_expand.specs.declared.answer.Counts.{Counts}
use Rattle.wk_expand.specs.declared.drafts.Draft.TheInside.{Inside}

abbrev pub expanded_with : Output → Counts → Expanded
expanded_with out counts = record { out = out; counters = counters_of counts }

pub record IsKept (d : Inside) : Type 0 where
  pub draft : IsDraft d.page d.given (expanded_with d.out d.counts) d.seen
  pub seen : IsSeen d.seen
  pub reads : d.reads.items ≡ map with_mark d.seen
  pub turned : d.turned ≡ turned_by d.page d.given d.seen
