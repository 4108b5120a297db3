-- What a substitution may cost (own). It counts nodes and the bytes of its calls as an expansion counts nodes and the bytes of
-- its inclusions, and with the same limits; where one is reached a node stays as it is written.
use Rattle.std.specs.Prelude.{ℕ, ◌+◌, nat_lt, List, length, if◌then◌else◌}
use Rattle.wk_view_rules.specs.Expansions.{Expansion, with_nodes, with_include, most_nodes, most_bytes}
use Rattle.wk_view_rules.specs.Plans.{gives}

-- So many nodes are charged before the rest. Where the budget hasn't so many, it is spent, and the source is all.
abbrev pub charged_or : List ℕ → ℕ → Expansion (List ℕ) → Expansion (List ℕ)
charged_or source n rest progress =
    if nat_lt most_nodes (progress.counters.nodes + n)
    then gives (source, with_nodes most_nodes progress)
    else rest (with_nodes (progress.counters.nodes + n) progress)

-- what a call gives, or its source where calls would give too many bytes in all
abbrev pub result_or : List ℕ → List ℕ → Expansion (List ℕ)
result_or source out progress =
    let sum = progress.counters.include + length out in
    if nat_lt most_bytes sum then gives (source, progress) else gives (out, with_include sum progress)
