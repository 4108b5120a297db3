-- Rounds of asking: where an expansion needs an answer, the next round has it.
use Rattle.std.specs.Prelude.{ℕ, zero, suc, List, [], ◌∷◌, ◌++◌}
use Rattle.wk_text_rules.specs.Titles.{PageTitle}
use Rattle.wk_view_rules.specs.Plans.{Plan, Outcome, done, need, run}
use Rattle.wk_view_rules.specs.Views.{Expanded, text_plan, view_plan}
use Rattle.wk_view_rules.specs.Worlds.{Answer, Seen, of_seen}
use Rattle.wk_view_rules.specs.declared.Kind.{Kind}

-- what was seen, with the answer to what is needed
abbrev pub seen_next : (PageTitle → Kind → Answer) → Seen → Outcome Expanded → Seen
seen_next answer seen (done x reads) = seen
seen_next answer seen (need title kind reads) = seen ++ record { title = title; kind = kind; answer = answer title kind } ∷ []

-- What was seen for a plan after so many rounds. Each round has answers of its own, as they may come from a world that
-- changes in between.
unfoldable pub rounds_by : (ℕ → PageTitle → Kind → Answer) → Plan Expanded → ℕ → Seen
rounds_by answers plan zero = []
rounds_by answers plan (suc n) =
    let before = rounds_by answers plan n in
    seen_next (answers n) before (run (of_seen before) plan [])

-- for a page
abbrev pub rounds : (ℕ → PageTitle → Kind → Answer) → PageTitle → ℕ → Seen
rounds answers page = rounds_by answers (view_plan page)

-- for a given text
abbrev pub text_rounds : (ℕ → PageTitle → Kind → Answer) → PageTitle → List ℕ → ℕ → Seen
text_rounds answers page text = rounds_by answers (text_plan page text)
