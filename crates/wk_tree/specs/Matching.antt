-- What the matching of delimiters keeps of what it has seen.
use Rattle.std.specs.Prelude.{◌≡◌, ℕ, zero, suc, ◌+◌, ◌-◌, ◌≤◌, max, ◌==◌, if◌then◌else◌, Bool, true, false, List, [], ◌∷◌, ◌++◌, length, slice_set, slice_index_or}
use Rattle.std.specs.List.{AllByRecursion}
use Rattle.wk_tree.specs.Tokens.{plain_tokens, item_tokens, entries_tokens}
use Rattle.wk_tree.specs.declared.matching.Run.{Run}
use Rattle.wk_tree.specs.declared.matching.Opener.{Opener}
use Rattle.wk_tree.specs.declared.matching.Matching.{Matching}
use Rattle.wk_tree.specs.declared.matching.Way.{Way}
use Rattle.wk_tree.specs.declared.token.Token.{Token}
use Rattle.wk_tree.specs.declared.token.Token.TheVariants.{Plain, Sealed, Nothing, Bar, Equals, NodeStart, NodeEnd, Fill}
use Rattle.wk_tree_laws.specs.OnePass as pass
use Rattle.wk_tree_laws.specs.OnePass.{PassState, Met, met, met_as_node, met_as_brackets, met_as_plain, resumed, closed}
use Rattle.wk_tree_rules.specs.Reduction.{Delimiter, braces, brackets, most_height}
use Rattle.wk_tree_rules.specs.Reduction as rules
use Rattle.wk_tree_rules.specs.Trees.{Entry, item, bar, equals, content_of, content_height}

-- ---- runs

abbrev pub are_brackets : Delimiter → Bool
are_brackets braces = false
are_brackets brackets = true

abbrev pub delimiters_by : Bool → Delimiter
delimiters_by false = braces
delimiters_by true = brackets

-- a run as the definition has it, and back
abbrev pub as_run : Run → rules.Run
as_run run = record { delimiters = delimiters_by run.brackets; start = run.end - run.count; count = run.count }

abbrev pub of_run : rules.Run → Run
of_run run = record { brackets = are_brackets run.delimiters; count = run.count; end = run.start + run.count }

abbrev pub run_tokens : rules.Run → List Token
run_tokens run = plain_tokens run.start run.count

-- ---- bars and equals signs

-- the places of the bars and equals signs of entries, in a list of tokens in which the entries' tokens begin at a place
abbrev pub bar_places : ℕ → List Entry → List ℕ
bar_places at [] = []
bar_places at (item i ∷ parts) = bar_places (at + length (item_tokens i)) parts
bar_places at (bar start ∷ parts) = at ∷ bar_places (at + 1) parts
bar_places at (equals start ∷ parts) = at ∷ bar_places (at + 1) parts

-- a bar or an equals sign that is plain text
abbrev pub plain_token : Token → Token
plain_token (Bar start) = Plain start 1
plain_token (Equals start) = Plain start 1
plain_token (Plain start len) = Plain start len
plain_token (Sealed start len) = Sealed start len
plain_token (Nothing start len) = Nothing start len
plain_token (NodeStart kind start) = NodeStart kind start
plain_token NodeEnd = NodeEnd
plain_token Fill = Fill

abbrev pub plain_at : List Token → ℕ → List Token
plain_at tokens at = slice_set tokens at (plain_token (slice_index_or tokens at Fill))

-- the bars and equals signs at some places become plain, the last place first
abbrev pub plained : List ℕ → List Token → List Token
plained [] tokens = tokens
plained (at ∷ places) tokens = plain_at (plained places tokens) at

-- ---- openers

-- the last opener is at least so high
abbrev pub raised : ℕ → List Opener → List Opener
raised height [] = []
raised height (opener ∷ []) = record opener { height = max opener.height height } ∷ []
raised height (opener ∷ next ∷ openers) = opener ∷ raised height (next ∷ openers)

-- ---- what was seen

abbrev pub tokens_by : List Entry → List pass.Opener → List Token
tokens_by first [] = entries_tokens first
tokens_by first (opener ∷ openers) = tokens_by first openers ++ (run_tokens opener.run ++ entries_tokens opener.stretch)

abbrev pub bars_by : List Entry → List pass.Opener → List ℕ
bars_by first [] = bar_places 0 first
bars_by first (opener ∷ openers) = bars_by first openers ++ bar_places (length (tokens_by first openers ++ run_tokens opener.run)) opener.stretch

-- a opener behind others
abbrev pub opener_behind : List Entry → List pass.Opener → pass.Opener → Opener
opener_behind first openers opener = record {
  run = of_run opener.run;
  slot = length (tokens_by first openers);
  bars = length (bars_by first openers);
  height = content_height (content_of opener.stretch);
}

abbrev pub openers_by : List Entry → List pass.Opener → List Opener
openers_by first [] = []
openers_by first (opener ∷ openers) = openers_by first openers ++ opener_behind first openers opener ∷ []

-- a opener with two or more delimiters that isn't too high
pub record IsFit (opener : pass.Opener) : Type 0 where
  pub long : 2 ≤ opener.run.count
  pub low : content_height (content_of opener.stretch) ≤ most_height

-- the tokens, the places of bars and equals signs, and the openers are those of what was seen
pub record Keeps (seen : PassState) (tokens : List Token) (bars : List ℕ) (openers : List Opener) : Type 0 where
  pub tokens_are : tokens ≡ tokens_by seen.first seen.openers
  pub bars_are : bars ≡ bars_by seen.first seen.openers
  pub openers_are : openers ≡ openers_by seen.first seen.openers
  pub fit : AllByRecursion IsFit seen.openers

-- what is kept is that of what was seen
abbrev pub IsKept : PassState → Matching → Type 0
IsKept seen matching = Keeps seen matching.tokens.items matching.bars.items matching.openers.items

-- what is kept behind a closing run that has met what was seen before, and what is left of the run
pub record MeetsAs (m : Met) (matching : Matching) (left : Run) : Type 0 where
  pub keeps : IsKept m.seen matching
  pub left_is : as_run left ≡ m.rest
  pub fits : left.count ≤ left.end

abbrev pub Meets : Run → PassState → Matching → Run → Type 0
Meets closer seen matching left = MeetsAs (met (as_run closer) seen) matching left

-- the same where the last opener is taken from the others
pub record IsPopped (first : List Entry) (top : pass.Opener) (openers : List pass.Opener) (opener : Opener) (matching : Matching) : Type 0 where
  pub opener_is : opener ≡ opener_behind first openers top
  pub tokens_are : matching.tokens.items ≡ tokens_by first (top ∷ openers)
  pub bars_are : matching.bars.items ≡ bars_by first (top ∷ openers)
  pub openers_are : matching.openers.items ≡ openers_by first openers
  pub fit : AllByRecursion IsFit (top ∷ openers)

-- what comes of an opening and a closing run, by whether each is of brackets, and by the height between them
abbrev pub way_of : Bool → Bool → ℕ → Way
way_of true true height = Way.Brackets
way_of false false height = if height == most_height then Way.Plain else Way.Node
way_of true false height = Way.Plain
way_of false true height = Way.Plain

abbrev pub met_by_way : Way → pass.Opener → rules.Run → PassState → PassState → Met
met_by_way Way.Node opener closer outer seen = met_as_node opener closer outer
met_by_way Way.Brackets opener closer outer seen = met_as_brackets opener closer outer
met_by_way Way.Plain opener closer outer seen = met_as_plain closer seen

-- what is left of an opening run, with a token for each delimiter
abbrev pub left_tokens : ℕ → ℕ → List Token
left_tokens start zero = []
left_tokens start (suc n) = plain_tokens start (suc n)

-- a opener that is left where two or more delimiters are
abbrev pub still_open : ℕ → Opener → List Opener
still_open zero opener = []
still_open (suc zero) opener = []
still_open (suc (suc n)) opener = opener ∷ []

-- a bar or an equals sign and its token
abbrev pub IsBarOf : Entry → Token → Type 0
IsBarOf (item i) token = ⊥
IsBarOf (bar start) token = token ≡ Bar start
IsBarOf (equals start) token = token ≡ Equals start

-- whether delimiters at a place are brackets
abbrev pub is_bracket : ℕ → Bool
is_bracket b = if b == 123 then false else if b == 125 then false else true

abbrev pub brackets_at : List ℕ → ℕ → Bool
brackets_at text at = is_bracket (slice_index_or text at 0)

-- what is kept while a closing run meets what was seen, at most so many times more, and ends as what is to be seen then
pub record IsClosing (left : Run) (matching : Matching) (n : ℕ) (end : PassState) : Type 0 where
  pub seen : PassState
  pub keeps : IsKept seen matching
  pub fits : left.count ≤ left.end
  pub same : resumed left.count (record { seen = seen; rest = as_run left }) (closed n (as_run left) seen) ≡ end
