-- Titles counted one after the other (own).
use Rattle.std.specs.Prelude.{ℕ, ◌+◌, List, [], ◌∷◌, fold, if◌then◌else◌}
use Rattle.wk_text_rules.specs.Titles.{PageTitle, title_eq}

-- the counts, where the title stands once more: a new one goes to the end
abbrev pub tallied : List (PageTitle × ℕ) → PageTitle → List (PageTitle × ℕ)
tallied [] title = (title, 1) ∷ []
tallied (entry ∷ entries) title =
    let later = tallied entries title in if title_eq title entry.0 then (entry.0, entry.1 + 1) ∷ entries else entry ∷ later

-- the counts, where these titles stand once more, one after the other
abbrev pub tallied_all : List (PageTitle × ℕ) → List PageTitle → List (PageTitle × ℕ)
tallied_all entries titles = fold tallied entries titles
