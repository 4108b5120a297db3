-- Where a text stands that is put into another one: within which calls, and what is bound there (MediaWiki's
-- Help:Substitution; that a value is bound when it is transformed already is own).
use Rattle.std.specs.Prelude.{ℕ, List, [], ◌∷◌, find, bytes_eq, Option, Some, None, option_map}
use Rattle.wk_text_rules.specs.Titles.{PageTitle}

-- a value that is bound to a name
pub record Bound : Type 0 where
  pub name : List ℕ
  pub value : List ℕ

-- The titles of the calls that a text stands within, the innermost first; and in the text of a page that is called what is
-- bound there, the last binding first. In the text that is saved nothing is ever bound.
pub record Place : Type 0 where
  pub within : List PageTitle
  pub bound : Option (List Bound)

-- the text that is saved
abbrev pub saved_place : Place
saved_place = record { within = []; bound = None }

-- what stands between the braces of a call, where that stands in such a place
abbrev pub operand_place : PageTitle → Place → Place
operand_place title place = record place { within = title ∷ place.within }

-- the text of the page that is called there
abbrev pub filled_place : PageTitle → List Bound → Place → Place
filled_place title bound place = record { within = title ∷ place.within; bound = Some bound }

-- what is bound to a name; of two bindings the later one
abbrev pub value_bound : List Bound → List ℕ → Option (List ℕ)
value_bound bound name = option_map (λ (b : Bound). b.value) (find (λ (b : Bound). bytes_eq b.name name) bound)
