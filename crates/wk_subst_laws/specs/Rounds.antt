-- Rounds of asking, for a plan of any result: where it needs an answer, the next round has it.
use Rattle.std.specs.Prelude.{ℕ, zero, suc, List, [], ◌∷◌, ◌++◌}
use Rattle.wk_text_rules.specs.Titles.{PageTitle}
use Rattle.wk_view_rules.specs.Plans.{Plan, Outcome, done, need, run}
use Rattle.wk_view_rules.specs.Worlds.{Answer, Seen, of_seen}
use Rattle.wk_view_rules.specs.declared.Kind.{Kind}
use Rattle.wk_subst_rules.specs.Substitution.{substitution_plan}

-- what was seen, with the answer to what is needed
abbrev pub seen_next : {A : Type 0} → (PageTitle → Kind → Answer) → Seen → Outcome A → Seen
seen_next answer seen (done x reads) = seen
seen_next answer seen (need title kind reads) = seen ++ record { title = title; kind = kind; answer = answer title kind } ∷ []

-- What was seen for a plan after so many rounds. Each round has answers of its own, as they may come from a world that
-- changes in between.
unfoldable pub rounds_by : {A : Type 0} → (ℕ → PageTitle → Kind → Answer) → Plan A → ℕ → Seen
rounds_by answers plan zero = []
rounds_by answers plan (suc n) =
    let before = rounds_by answers plan n in
    seen_next (answers n) before (run (of_seen before) plan [])

-- for a text that is saved
abbrev pub saved_rounds : (ℕ → PageTitle → Kind → Answer) → List ℕ → ℕ → Seen
saved_rounds answers text = rounds_by answers (substitution_plan text)
