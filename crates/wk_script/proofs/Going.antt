-- One line of a script, and what stands behind it.
use Rattle.std.proofs.Common.{◌≡◌, ℕ, ◌+◌, ◌^◌, ◌<◌, List, [], ◌∷◌, map, Option, Some, refl, sym, subst}
use Rattle.wk_table_rules.specs.Rows.{StoreTables}
use Rattle.wk_lines.specs.Reading.{Reading, ReadsToEnd}
use Rattle.wk_lines.specs.Stop.{IsWriting}
use Rattle.wk_lines.specs.declared.stop.Stop.{Stop}
use Rattle.wk_lines.specs.declared.stop.Stop.TheVariants.{ReadFault}
use Rattle.wk_core.specs.Seen.{WikiSeen}
use Rattle.wk_script_rules.specs.ScriptLines.{ScriptLine, restart_line, script_line}
use Rattle.wk_script_runs.specs.Outside.{Outside}
use Rattle.wk_script_runs.proofs.Reading.{HasRead, cut-last, lost-last, whole-through}
use Rattle.wk_script.specs.Behind.{IsBehind, IsBehindAll, IsServed}
use Rattle.wk_script.specs.declared.run.Next.{Next}
use Rattle.wk_script.specs.declared.run.Next.TheVariants.{Goes, Stops, Lost}
use Rattle.wk_script.specs.declared.run.Run.{Run}
use Rattle.wk_script.specs.declared.run.Told.TheVariants.{Restarts}

-- the line that is meant, where there is just one
pub one-line : (l : ScriptLine) (ls : List (Option (List ℕ))) → (l ∷ []) ≡ map script_line ls → (raw : Option (List ℕ)) × (ls ≡ raw ∷ []) × (script_line raw ≡ l)
one-line l [] is = absurd (cc is)
one-line l (raw ∷ []) is = (raw, refl, (let e : l ≡ script_line raw = cc in sym e))
one-line l (raw ∷ more ∷ rest) is = absurd (cc is)

-- and where there is none
pub no-line : (ls : List (Option (List ℕ))) → [] ≡ map script_line ls → ls ≡ []
no-line [] is = refl
no-line (raw ∷ rest) is = absurd (cc is)

-- what stands behind the restart that a line asks for stands behind the line
pub restart-behind : {K : Type 0} (told : K → Option StoreTables) (faults : K → ℕ) (old run : Run K) (line : List (Option (List ℕ))) (left later taken more last : Option (List ℕ)) (result : Next K)
    → IsServed told faults old run line left later taken more Restarts
    → ((raw moments : Option (List ℕ)) → script_line raw ≡ restart_line → IsBehind told faults run (raw ∷ []) moments moments more last result)
    → IsBehind told faults old line left later taken last result
restart-behind {K = K} told faults old run line left later taken more last result (same, no_moment, nothing, asked) behind =
    subst (λ (r : Run K). IsBehind told faults r line left later taken last result) same
    (subst (λ (ls : List (Option (List ℕ))). IsBehind told faults run ls left later taken last result) (sym asked.1)
    (subst (λ (m : Option (List ℕ)). IsBehind told faults run (asked.0 ∷ []) left m taken last result) no_moment
    (subst (λ (t : Option (List ℕ)). IsBehind told faults run (asked.0 ∷ []) left left t last result) (sym nothing)
    (behind asked.0 left asked.2))))

-- what stands behind the last line stands behind all
pub behind-last : {K : Type 0} (told : K → Option StoreTables) (faults : K → ℕ) (old : WikiSeen K) (run : Run K) (before now : Outside) (rest moments taken : Option (List ℕ))
    (r q : Reading) (a b x y : ℕ) (line : List (Option (List ℕ))) (result : Next K)
    → HasRead told faults old run.wiki run.tickets.items before now run.points.items r a b x y → ReadsToEnd r q now.rest rest line → q.total < 2 ^ 40 + 2 ^ 13
    → IsBehind told faults run line now.moments moments now.taken taken result
    → IsBehindAll told faults old before (record { rest = rest; moments = moments; taken = taken }) result
behind-last told faults old run before now rest moments taken r q a b x y line (Goes after) h read few behind =
    whole-through told faults old run.wiki run.tickets.items before now run.points.items after.wiki after.tickets.items rest moments taken after.points.items r q a b x y line h read few behind
behind-last told faults old run before now rest moments taken r q a b x y line (Stops after stop) h read few behind =
    cut-last told faults old run.wiki run.tickets.items before now run.points.items after.wiki after.tickets.items rest moments taken after.points.items r q a b x y line stop h read few behind.0 behind.1
behind-last told faults old run before now rest moments taken r q a b x y line (Lost keeper points why) h read few lost =
    lost-last told faults old run.wiki run.tickets.items before now run.points.items why keeper lost.0 rest moments taken points.items lost.1 lost.2 lost.3 r q a b x y line h read few

-- where the writing stopped it no read failed
pub writing-no-read : (stop : Stop) → IsWriting stop → Some stop ≡ Some ReadFault → ⊥
writing-no-read stop writing e = let is : stop ≡ ReadFault = cc in subst IsWriting is writing
