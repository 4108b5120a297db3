-- Expansions: plans that keep four counters, and the limits of these (MediaWiki's Manual:Template limits; the
-- numbers and the node budget's charges are own).
use Rattle.std.specs.Prelude.{ℕ, ◌+◌, nat_lt, List, [], ◌∷◌, ◌++◌, length, if◌then◌else◌}
use Rattle.wk_text_rules.specs.Marked.{MarkedByte}
use Rattle.wk_text_rules.specs.Titles.{PageTitle}
use Rattle.wk_view_rules.specs.Plans.{Plan, gives, asks, and_then}
use Rattle.wk_view_rules.specs.Texts.{node_error, argument_error, link_text}
use Rattle.wk_view_rules.specs.Worlds.{Answer}
use Rattle.wk_view_rules.specs.declared.Kind.{Kind}

-- ---- limits

-- nodes that an expansion costs at most
abbrev pub most_nodes : ℕ
most_nodes = 1000000

-- bytes of included texts, and bytes of arguments
abbrev pub most_bytes : ℕ
most_bytes = 2097152

-- titles that are tested for existence
abbrev pub most_tests : ℕ
most_tests = 100

-- pages that include each other
abbrev pub most_depth : ℕ
most_depth = 40

-- nodes that are open within each other
abbrev pub most_open : ℕ
most_open = 200

-- ---- counters

-- the nodes so far with what was charged for texts, values and redirects, the bytes of what was included, the bytes of
-- arguments, and the number of titles that were tested for existence
pub record Counters : Type 0 where
  pub nodes : ℕ
  pub include : ℕ
  pub argument : ℕ
  pub exists : ℕ

abbrev pub no_counters : Counters
no_counters = record { nodes = 0; include = 0; argument = 0; exists = 0 }

-- how far an expansion has come: the counters, and the titles that were tested for existence, in order
pub record Progress : Type 0 where
  pub counters : Counters
  pub tested : List PageTitle

-- at the start
abbrev pub no_progress : Progress
no_progress = record { counters = no_counters; tested = [] }

abbrev pub with_nodes : ℕ → Progress → Progress
with_nodes n progress = record progress { counters = record progress.counters { nodes = n } }

abbrev pub with_include : ℕ → Progress → Progress
with_include n progress = record progress { counters = record progress.counters { include = n } }

abbrev pub with_argument : ℕ → Progress → Progress
with_argument n progress = record progress { counters = record progress.counters { argument = n } }

-- one more title was tested for existence
abbrev pub with_test : PageTitle → Progress → Progress
with_test title progress = record {
  counters = record progress.counters { exists = progress.counters.exists + 1 };
  tested = progress.tested ++ title ∷ [];
}

-- ---- expansions

-- a plan that begins with how far it has come, and ends with how far it came
abbrev pub Expansion : Type 0 → Type 0
Expansion A = Progress → Plan (A × Progress)

abbrev pub Output : Type 0
Output = List MarkedByte

-- the value, with nothing asked or counted
abbrev pub give : {A : Type 0} → A → Expansion A
give x progress = gives (x, progress)

-- the answer that a title gets
abbrev pub answer_to : PageTitle → Kind → Expansion Answer
answer_to title kind progress = asks title kind (λ answer. gives (answer, progress))

infixl 10 ◌>>=◌
-- an expansion, and then one that hangs on its value
abbrev pub ◌>>=◌ : {A B : Type 0} → Expansion A → (A → Expansion B) → Expansion B
◌>>=◌ first next progress = and_then (first progress) (λ end. next end.0 end.1)

-- ---- the limits at work

-- So many nodes are charged before the rest. Where the budget hasn't so many, it is spent, and the error is all.
abbrev pub charged : ℕ → Expansion Output → Expansion Output
charged n rest progress =
    if nat_lt most_nodes (progress.counters.nodes + n)
    then gives (node_error, with_nodes most_nodes progress)
    else rest (with_nodes (progress.counters.nodes + n) progress)

-- an argument's text, or the error where arguments would have too many bytes in all
abbrev pub argument_within_limit : Output → Expansion Output
argument_within_limit out progress =
    let sum = progress.counters.argument + length out in
    if nat_lt most_bytes sum then gives (argument_error, progress) else gives (out, with_argument sum progress)

-- the text of an inclusion, or a link to the page where inclusions would have too many bytes in all
abbrev pub inclusion_within_limit : PageTitle → Output → Expansion Output
inclusion_within_limit title out progress =
    let sum = progress.counters.include + length out in
    if nat_lt most_bytes sum then gives (link_text title, progress) else gives (out, with_include sum progress)
