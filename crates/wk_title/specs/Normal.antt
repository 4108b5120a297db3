-- What each `Title` keeps.
use Rattle.std.specs.Prelude.{◌≡◌, ℕ, ℤ, true, List, Some}
use Rattle.std.specs.Str.{IsUtf8}
use Rattle.wk_text_rules.specs.Titles.{PageTitle, is_namespace, normal}

-- a text, and a default namespace of the table, that name the title
pub record IsName (text : List ℕ) (default_ns : ℤ) (title : PageTitle) : Type 0 where
  pub text_is_utf8 : IsUtf8 text
  pub default_is_namespace : is_namespace default_ns ≡ true
  pub names : normal text default_ns ≡ Some title

-- some text names the title
abbrev pub IsNormal : PageTitle → Type 0
IsNormal title = ∥ ((text : List ℕ) × (default_ns : ℤ) × IsName text default_ns title) ∥₁
