-- One plan behind another.
use Rattle.wk_view_rules.specs.Plans.{Plan, Outcome, done, need, run}
use Rattle.wk_view_rules.specs.Worlds.{Source}

-- A plan that is done goes on with the next one, which hangs on its value; a need stays.
abbrev pub goes_on : {A B : Type 0} → Source → (A → Plan B) → Outcome A → Outcome B
goes_on source next (done x reads) = run source (next x) reads
goes_on source next (need title kind reads) = need title kind reads
