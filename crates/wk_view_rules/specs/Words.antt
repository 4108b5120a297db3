-- Which word the title part of a template node is, and what an item of a `#switch` decides (MediaWiki's
-- Help:Extension:ParserFunctions and Help:Magic words; the corners are own).
use Rattle.std.specs.Prelude.{ℕ, ◌+◌, Bool, false, ◌||◌, List, [], ◌∷◌, ◌++◌, length, find, bytes_eq, codes, Option, Some, None, option_map, if◌then◌else◌}
use Rattle.std.specs.Char.{eq_ignore_ascii_case}
use Rattle.std.specs.List.{starts_with}
use Rattle.wk_text_rules.specs.Marked.{MarkedByte, plain, sealed, all_plain, plain_text_of}
use Rattle.wk_text_rules.specs.Numerals.{same_output}
use Rattle.wk_text_rules.specs.Titles.{same_but_case}
use Rattle.wk_view_rules.specs.declared.Func.{Func}
use Rattle.wk_view_rules.specs.declared.Func.TheVariants.{If, IfEq, IfExist, IfError, Switch}
use Rattle.wk_view_rules.specs.declared.Turned.{Turned}
use Rattle.wk_view_rules.specs.declared.Turned.TheVariants.{Result, Default, Pass}
use Rattle.wk_view_rules.specs.declared.Var.{Var}
use Rattle.wk_view_rules.specs.declared.Var.TheVariants.{Bar, PageName, FullPageName, Namespace}
use Rattle.wk_view_rules.specs.declared.Word.{Word}
use Rattle.wk_view_rules.specs.declared.Word.TheVariants.{Variable, Function, Page}

-- ---- words

-- the variables, whose names have one spelling
abbrev pub variables : List (List ℕ × Var)
variables =
    (codes "!", Bar) ∷ (codes "PAGENAME", PageName) ∷ (codes "FULLPAGENAME", FullPageName)
    ∷ (codes "NAMESPACE", Namespace) ∷ []

-- the functions, whose names are found in any case
abbrev pub functions : List (List ℕ × Func)
functions =
    (codes "#if", If) ∷ (codes "#ifeq", IfEq) ∷ (codes "#ifexist", IfExist) ∷ (codes "#iferror", IfError)
    ∷ (codes "#switch", Switch) ∷ []

-- the variable that a title part is: it is plain, and exactly the name
abbrev pub variable_called : List MarkedByte → Option Var
variable_called title = elim (plain_text_of title) [
  | None ↦ None
  | Some name ↦ option_map (λ entry. entry.1) (find (λ entry. bytes_eq entry.0 name) variables)
]

-- both plain, and the same byte but for the case of ASCII letters
abbrev pub same_plain_letter : MarkedByte → MarkedByte → Bool
same_plain_letter (plain a) (plain b) = eq_ignore_ascii_case a b
same_plain_letter (plain a) (sealed b) = false
same_plain_letter (sealed a) (plain b) = false
same_plain_letter (sealed a) (sealed b) = false

-- a title part begins with a function's name and a colon, in plain bytes
abbrev pub begins_with_function : List MarkedByte → List ℕ → Bool
begins_with_function title name = starts_with same_plain_letter title (all_plain (name ++ codes ":"))

-- the function that a title part calls, and the place behind the colon
abbrev pub function_called : List MarkedByte → Option (Func × ℕ)
function_called title =
    option_map (λ entry. (entry.1, length entry.0 + 1)) (find (λ entry. begins_with_function title entry.0) functions)

abbrev pub word_by : Option Var → Option (Func × ℕ) → Word
word_by (Some variable) called = Variable variable
word_by None (Some called) = Function called.0 called.1
word_by None None = Page

-- What a trimmed title part calls. It is a variable only where the node has no further part.
abbrev pub word : List MarkedByte → Bool → Word
word title alone = word_by (if alone then variable_called title else None) (function_called title)

-- ---- `#switch`

-- what a `#switch` knows before an item: its subject, and whether a bare `#default` stands before the item, with no
-- item with an equals sign between
pub record SwitchState : Type 0 where
  pub subject : List MarkedByte
  pub default_before : Bool

-- before the first item
abbrev pub switch_on : List MarkedByte → SwitchState
switch_on subject = record { subject = subject; default_before = false }

-- `#default`, plain and in any case
abbrev pub is_default : List MarkedByte → Bool
is_default out = elim (plain_text_of out) [ None ↦ false | Some text ↦ same_but_case text (codes "#default") ]

-- An item with an equals sign gives the result where its name equals the subject. Else it is a default item where
-- its name is `#default`, or where a bare `#default` stands before it.
abbrev pub named_item : SwitchState → List MarkedByte → Turned
named_item switch name =
    if same_output name switch.subject then Result
    else if is_default name || switch.default_before then Default
    else Pass

abbrev pub after_named_item : SwitchState → SwitchState
after_named_item switch = record switch { default_before = false }

-- A bare item matches where it equals the subject.
abbrev pub bare_item : SwitchState → List MarkedByte → Turned
bare_item switch text = if same_output text switch.subject then Result else Pass

abbrev pub after_bare_item : SwitchState → List MarkedByte → SwitchState
after_bare_item switch text = record switch { default_before = switch.default_before || is_default text }
