-- How the worked examples write worlds, and what a text becomes in them.
use Rattle.std.specs.Prelude.{ℕ, ◌-◌, zero, suc, List, [], ◌∷◌, ◌++◌, map, replicate, bytes_eq, codes, Some, None, if◌then◌else◌}
use Rattle.wk_text_rules.specs.Titles.{shown}
use Rattle.wk_tree_rules.specs.Tree.{tree}
use Rattle.wk_tree_rules.specs.declared.Mode.TheVariants as mode
use Rattle.wk_view_rules.specs.Expansions.{Progress, no_progress, with_include, with_nodes, most_bytes, most_nodes, most_open}
use Rattle.wk_view_rules.specs.Plans.{Outcome, done, need, reads_of, run}
use Rattle.wk_view_rules.specs.Worlds.{World, Read, of_world}
use Rattle.wk_subst_rules.specs.Places.{saved_place}
use Rattle.wk_subst_rules.specs.Substitution.{substituted, substituted_items}

-- ---- worlds

-- pages by their shown titles and their texts
abbrev pub pages : List (List ℕ × List ℕ) → World
pages [] title = None
pages (entry ∷ entries) title =
    let later = pages entries title in
    if bytes_eq (shown title) entry.0 then Some (record { revision = 1; text = entry.1 }) else later

-- one page alone
abbrev pub only : List ℕ → List ℕ → World
only name text = pages ((name, text) ∷ [])

-- a page that greets, and one that is `x`
abbrev pub greeting : World
greeting = pages (
    (codes "Template:G", codes "Hi {{{1|you}}}<noinclude>doc</noinclude> {{B}}")
    ∷ (codes "Template:N", codes "x") ∷ []
    )

-- a page with a second part in its arguments
abbrev pub shape : List ℕ → World
shape text = only (codes "Template:T") text

-- a long page, and one that is `x`
abbrev pub long_and_short : World
long_and_short = pages ((codes "Template:T", replicate 128 97) ∷ (codes "Template:N", codes "x") ∷ [])

-- each page calls the one whose title has an `a` more at its end
abbrev pub endless : World
endless title = Some (record { revision = 1; text = codes "{{subst:" ++ (title.key ++ codes "a}}") })

-- a text so many times
abbrev pub times : ℕ → List ℕ → List ℕ
times zero text = []
times (suc n) text = text ++ times n text

-- what stands in so many templates within each other
abbrev pub in_templates : ℕ → List ℕ → List ℕ
in_templates count text = times count (codes "{{a|") ++ (text ++ times count (codes "}}"))

-- Template:D holds a call of N in so many templates within each other, N is a text, and M is `y`
abbrev pub deep : ℕ → List ℕ → World
deep count text = pages (
    (codes "Template:D", in_templates count (codes "{{subst:N}}"))
    ∷ (codes "Template:N", text)
    ∷ (codes "Template:M", codes "y") ∷ []
    )

-- ---- texts

-- what a plan gave; nothing where it needs an answer
abbrev pub given : {A : Type 0} → A → Outcome A → A
given nothing (done x reads) = x
given nothing (need title kind reads) = nothing

-- what a text becomes
abbrev pub saved : World → List ℕ → List ℕ
saved world text = given [] (substituted (of_world world) text)

-- the shown titles that were asked for it, in order
abbrev pub asked : World → List ℕ → List (List ℕ)
asked world text = map (λ (r : Read). shown r.title) (reads_of (substituted (of_world world) text))

-- a text in the middle of a substitution that has come so far: what it becomes, and how many nodes and bytes of calls were
-- counted behind it
abbrev pub from : Progress → World → List ℕ → List ℕ × Progress
from progress world text = given ([], progress) (run (of_world world) (substituted_items most_open saved_place (tree mode.View text) progress) [])

abbrev pub counted : List ℕ × Progress → List ℕ × (ℕ × ℕ)
counted (text, progress) = (text, (progress.counters.nodes, progress.counters.include))

-- where the budget has so many nodes left
abbrev pub with_nodes_left : ℕ → World → List ℕ → List ℕ × (ℕ × ℕ)
with_nodes_left left world text = counted (from (with_nodes (most_nodes - left) no_progress) world text)

-- where calls may give so many bytes more
abbrev pub with_bytes_left : ℕ → World → List ℕ → List ℕ × (ℕ × ℕ)
with_bytes_left left world text = counted (from (with_include (most_bytes - left) no_progress) world text)
