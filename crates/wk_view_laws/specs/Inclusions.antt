-- When an inclusion meets a redirect.
use Rattle.std.specs.Prelude.{◌≡◌, ◌+◌, ◌/◌, ◌<◌, ◌≤◌, false, List, length, Some}
use Rattle.wk_text_rules.specs.Titles.{PageTitle, is_virtual}
use Rattle.wk_tree_rules.specs.Redirects.{redirect_target}
use Rattle.wk_view_rules.specs.Expansions.{Progress, most_depth, most_nodes, with_nodes}
use Rattle.wk_view_rules.specs.Frames.{Frame, is_within}
use Rattle.wk_view_rules.specs.Plans.{noted}
use Rattle.wk_view_rules.specs.Worlds.{World, PageText, Read, page}
use Rattle.wk_view_rules.specs.declared.Kind.TheVariants.{Include}

-- The title can be included in the frame; its page redirects to a target, which can be included too; and the node
-- budget has what the redirect costs.
pub record MeetsRedirect (pages : World) (frame : Frame) (progress : Progress) (title target : PageTitle) (text target_text : PageText) : Type 0 where
  pub real : is_virtual title ≡ false
  pub closed : is_within frame title ≡ false
  pub shallow : length frame < most_depth
  pub there : pages title ≡ Some text
  pub redirects : redirect_target text.text ≡ Some target
  pub target_closed : is_within frame target ≡ false
  pub target_there : pages target ≡ Some target_text
  pub affordable : progress.counters.nodes + (1 + length text.text / 64) ≤ most_nodes

-- a page's text as it is read for inclusion
abbrev pub read_for_inclusion : PageTitle → PageText → Read
read_for_inclusion title text = record { title = title; kind = Include; answer = page (Some text) }

-- the reads with those of a redirect and of its target
abbrev pub redirect_noted : PageTitle → PageTitle → PageText → PageText → List Read → List Read
redirect_noted title target text target_text before =
    noted (noted before (read_for_inclusion title text)) (read_for_inclusion target target_text)

-- the counters with what a redirect costs
abbrev pub redirect_charged : PageText → Progress → Progress
redirect_charged text progress = with_nodes (progress.counters.nodes + (1 + length text.text / 64)) progress
