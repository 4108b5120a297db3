-- The arguments of a template, as a map from names to values (MediaWiki's Help:Templates).
use Rattle.std.specs.Prelude.{ℕ, List, Option}
use Rattle.std.specs.Ordering.{nat_cmp}
use Rattle.std.specs.Cmp.Lexicographic.{slice_cmp}
use Rattle.std.specs.FinMap.{FinMap, get}

-- what a name is bound to
abbrev pub bound : {V : Type 0} → FinMap (slice_cmp nat_cmp) V → List ℕ → Option V
bound args name = get args name
