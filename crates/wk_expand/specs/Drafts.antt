-- Drafts: what a page or a given text expands to, by its reads.
use Rattle.std.specs.Prelude.{◌≡◌, ℕ, List, [], Option, Some, None}
use Rattle.wk_text_rules.specs.Titles.{PageTitle}
use Rattle.wk_view_rules.specs.Plans.{Plan, Outcome, done, run}
use Rattle.wk_view_rules.specs.Views.{Expanded, text_plan, view_plan, turned}
use Rattle.wk_view_rules.specs.Worlds as rule
use Rattle.wk_view_rules.specs.Worlds.{Source, Seen, Agrees, mark}
use Rattle.wk_expand.specs.declared.answer.Read.{Read}

-- a draft: the page, the text that was given in the place of its own, the output with what it cost, and the reads
pub record DraftShown : Type 0 where
  pub page : PageTitle
  pub given : Option (List ℕ)
  pub expanded : Expanded
  pub reads : Seen

-- what is expanded for a page: its own text, or a given one
abbrev pub plan_of : PageTitle → Option (List ℕ) → Plan Expanded
plan_of page None = view_plan page
plan_of page (Some text) = text_plan page text

abbrev pub drafted : Source → PageTitle → Option (List ℕ) → Outcome Expanded
drafted source page given = run source (plan_of page given) []

-- The output is what the page, or the text, expands to over each source that gives the reads their answers.
pub record IsDraft (page : PageTitle) (given : Option (List ℕ)) (expanded : Expanded) (reads : Seen) : Type 0 where
  pub everywhere : (source : Source) → Agrees source reads → drafted source page given ≡ done expanded reads

-- a read with its mark
abbrev pub with_mark : rule.Read → Read
with_mark r = record { title = r.title; kind = r.kind; mark = mark r.answer }

-- the title that the page redirects to; none where a text was given
abbrev pub turned_by : PageTitle → Option (List ℕ) → Seen → Option PageTitle
turned_by page None reads = turned page reads
turned_by page (Some text) reads = None
