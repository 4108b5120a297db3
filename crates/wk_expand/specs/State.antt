-- How far an expansion has come, as the code keeps it.
use Rattle.std.specs.Prelude.{◌≡◌, List, [], drop}
use Rattle.wk_text_rules.specs.Titles.{PageTitle}
use Rattle.wk_tree.specs.Parsed.{ParsedText}
use Rattle.wk_view_rules.specs.Expansions.{Progress, no_progress}
use Rattle.wk_view_rules.specs.Frames.{Frame}
use Rattle.wk_view_rules.specs.Worlds.{Seen}
use Rattle.wk_expand.specs.Answers.{counters_of}
use Rattle.wk_frames.specs.Frames.{ShowsFrame}
use Rattle.wk_frames.specs.Levels.{tree_in}
use Rattle.wk_expand.specs.declared.answer.Counts.{Counts}
use Rattle.wk_expand.specs.declared.state.Expander.{Expander}

abbrev pub progress_with : Counts → List PageTitle → Progress
progress_with counts tested = record { counters = counters_of counts; tested = tested }

abbrev pub progress_of : Expander → Progress
progress_of s = record { counters = counters_of s.counts; tested = s.tested.items }

-- The expansion of a text as this page's own is at its start, behind these reads.
pub record IsBegun (viewed : PageTitle) (tree : ParsedText) (before : Seen) (s : Expander) : Type 0 where
  pub page : s.page ≡ viewed
  pub levels : s.levels ≡ record { root = tree; included = [] }
  pub progress : progress_of s ≡ no_progress
  pub reads : s.reads ≡ before

-- ---- frames

abbrev pub current : Expander → ParsedText
current s = tree_in s.levels.root s.levels.included

-- the text of the caller
abbrev pub caller_tree : Expander → ParsedText
caller_tree s = tree_in s.levels.root (drop 1 s.levels.included)

-- The expansion is that of this viewed page, and has come into this frame.
pub record IsFrame (s : Expander) (viewed : PageTitle) (frame : Frame) : Type 0 where
  pub page : s.page ≡ viewed
  pub shows : ShowsFrame s.levels.root s.levels.included frame
