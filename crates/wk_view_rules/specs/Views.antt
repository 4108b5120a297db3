-- What a viewed page, or a given text, expands to (MediaWiki's Help:Templates; that an expansion is a list of
-- answered reads with an output is own).
use Rattle.std.specs.Prelude.{ℕ, List, [], find, Option, Some, None, option_and_then}
use Rattle.wk_text_rules.specs.Titles.{PageTitle}
use Rattle.wk_tree_rules.specs.Redirects.{redirect_target}
use Rattle.wk_tree_rules.specs.Tree.{tree}
use Rattle.wk_tree_rules.specs.declared.Mode.TheVariants as mode
use Rattle.wk_view_rules.specs.Expand.{expand}
use Rattle.wk_view_rules.specs.Expansions.{Output, Progress, Counters, no_counters, no_progress, most_open}
use Rattle.wk_view_rules.specs.Plans.{Plan, gives, asks, and_then, Outcome, run, reads_of}
use Rattle.wk_view_rules.specs.Worlds.{Read, Source, page_of, is_read_of}
use Rattle.wk_view_rules.specs.declared.Kind.TheVariants.{View}

-- an output, and what it cost
pub record Expanded : Type 0 where
  pub out : Output
  pub counters : Counters

abbrev pub expanded_by : Output × Progress → Plan Expanded
expanded_by (out, progress) = gives (record { out = out; counters = progress.counters })

-- a text as the viewed page's own, from the root
unfoldable pub text_plan : PageTitle → List ℕ → Plan Expanded
text_plan viewed text = and_then (expand most_open viewed [] (tree mode.View text) no_progress) expanded_by

-- the page's own text, or nothing where the page is missing
unfoldable pub view_plan : PageTitle → Plan Expanded
view_plan viewed = asks viewed View (λ answer.
    elim (page_of answer) [
      | None ↦ gives (record { out = []; counters = no_counters })
      | Some p ↦ text_plan viewed p.text
    ])

-- what a page expands to over a source
abbrev pub view : Source → PageTitle → Outcome Expanded
view source page = run source (view_plan page) []

-- what a given text expands to in the place of a page's own
abbrev pub shown_text : Source → PageTitle → List ℕ → Outcome Expanded
shown_text source page text = run source (text_plan page text) []

-- what is read for a page's expansion, with the answers
abbrev pub reads : Source → PageTitle → List Read
reads source page = reads_of (view source page)

-- the title that the viewed page redirects to, by the reads
abbrev pub turned : PageTitle → List Read → Option PageTitle
turned page reads =
    option_and_then (λ p. redirect_target p.text)
    (option_and_then (λ (r : Read). page_of r.answer) (find (is_read_of page View) reads))
