-- What a draft comes to by what was seen.
use Rattle.std.specs.Prelude.{◌≡◌, ℕ, List, Option, Some, None, Result, Ok, Err}
use Rattle.wk_text_rules.specs.Titles.{PageTitle}
use Rattle.wk_view_rules.specs.Expansions.{Output}
use Rattle.wk_view_rules.specs.Plans.{done, run}
use Rattle.wk_view_rules.specs.Views.{text_plan}
use Rattle.wk_view_rules.specs.Worlds.{Seen, ask, of_seen}
use Rattle.wk_expand.specs.Drafts.{drafted}
use Rattle.wk_expand.specs.Kept.{expanded_with}
use Rattle.wk_expand.specs.Running.{needed, Stops}
use Rattle.wk_expand.specs.declared.answer.Counts.{Counts}
use Rattle.wk_expand.specs.declared.state.Stop.{Stop}
use Rattle.wk_expand.specs.declared.drafts.Draft.{Draft}
use Rattle.wk_expand.specs.declared.drafts.Root.{Root}
use Rattle.wk_expand.specs.declared.drafts.Root.TheVariants.{Page, Given}
use Rattle.wk_expand.specs.declared.drafts.Step.{Step}
use Rattle.wk_expand.specs.declared.drafts.Step.TheVariants.{Done, Needs}

-- the text that is given in the place of the page's own
abbrev pub given_text : Root → Option (List ℕ)
given_text Page = None
given_text (Given text) = Some text

-- A text is expanded as the page's own, behind the reads that there are.
abbrev pub Expands : Seen → PageTitle → List ℕ → Seen → Result (Output × Counts × Seen) Stop → Type 0
Expands seen page text before (Ok (out, counts, reads)) =
    run (of_seen seen) (text_plan page text) before ≡ done (expanded_with out counts) reads
Expands seen page text before (Err stop) = Stops (run (of_seen seen) (text_plan page text) before) stop

-- A draft of what the page, or the given text, expands to by what was seen; or its expansion stops.
abbrev pub IsDrafted : Seen → PageTitle → Option (List ℕ) → Result Draft Stop → Type 0
IsDrafted seen page given (Ok d) =
    (d.page ≡ page) × (d.given ≡ given) × (drafted (of_seen seen) page given ≡ done d.expanded d.reads)
IsDrafted seen page given (Err stop) = Stops (drafted (of_seen seen) page given) stop

-- Done with what the page, or the text, expands to by what was seen; or the pair that isn't among it.
abbrev pub IsStep : PageTitle → Root → Seen → Step → Type 0
IsStep page root seen (Done d) = IsDrafted seen page (given_text root) (Ok d)
IsStep page root seen (Needs title kind) = needed (drafted (of_seen seen) page (given_text root)) ≡ Some (title, kind)

-- What is needed wasn't seen.
abbrev pub IsUnseen : Seen → Step → Type 0
IsUnseen seen (Done d) = Unit {0}
IsUnseen seen (Needs title kind) = ask (of_seen seen) title kind ≡ None
