-- How the parts of a title are shown.
use Rattle.std.specs.Prelude.{ℕ, ℤ, ◌==◌, List, [], ◌∷◌, ◌++◌, length, if◌then◌else◌}
use Rattle.wk_text_rules.specs.Titles.{namespace_name}

abbrev pub with_space : ℕ → ℕ
with_space c = if c == 95 then 32 else c

-- the namespace's name and a colon, nothing in main
abbrev pub shown_namespace : ℤ → List ℕ
shown_namespace ns = if length (namespace_name ns) == 0 then [] else namespace_name ns ++ 58 ∷ []
