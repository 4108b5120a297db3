-- A restart that is told of.
use Rattle.std.proofs.Common.{◌≡◌, ℕ, List, [], ◌∷◌, ◌++◌, length, Option, refl, sym, subst}
use Rattle.wk_table_rules.specs.Rows.{StoreTables}
use Rattle.wk_script_rules.specs.ScriptLines.{restart_line, script_line}
use Rattle.wk_script_rules.specs.WikiScripts.{TicketDraft}
use Rattle.wk_script_rules.specs.Runs.{reply_text}
use Rattle.wk_script_steps.specs.Reopened.{Reopens}
use Rattle.wk_script_runs.specs.Served.{Writes}
use Rattle.wk_script_runs.specs.Serving.{WritesFirst}
use Rattle.wk_script_runs.proofs.Restarting.{restart-served, restart_reply}
use Rattle.wk_script_runs.proofs.Serving.{all-first, one-in-part, one-written}
use Rattle.wk_script.specs.Behind.{IsBehind, IsRestartTold}
use Rattle.wk_script.specs.declared.run.Next.{Next}
use Rattle.wk_script.specs.declared.run.Next.TheVariants.{Goes, Stops, Lost}
use Rattle.wk_script.specs.declared.run.Run.{Run}

-- the wiki of the run was opened anew, and its point put to the others
pub told-behind : {K : Type 0} (told : K → Option StoreTables) (faults : K → ℕ) (old run : Run K) (left taken more raw : Option (List ℕ)) (result : Next K) → script_line raw ≡ restart_line
    → Reopens told faults old.wiki old.tickets.items run.wiki → run.tickets.items ≡ [] → run.points.items ≡ old.points.items ++ length run.wiki.journal ∷ []
    → IsRestartTold run taken more result → IsBehind told faults old (raw ∷ []) left left taken more result
told-behind {K = K} told faults old run left taken more raw (Goes after) is reopens none points shown =
    subst (λ (r : Run K). Writes told faults old.wiki r.wiki old.tickets.items r.tickets.items (raw ∷ []) left left taken more old.points.items r.points.items) (sym shown.0)
    (subst (λ (ts : List TicketDraft). Writes told faults old.wiki run.wiki old.tickets.items ts (raw ∷ []) left left taken more old.points.items run.points.items) (sym none)
    (one-written told faults old.wiki run.wiki old.tickets.items [] raw left left taken more (restart_reply run.wiki.state (length run.wiki.journal))
    (reply_text (restart_reply run.wiki.state (length run.wiki.journal))) old.points.items run.points.items
    (restart-served told faults old.wiki run.wiki old.tickets.items reopens raw is left) refl shown.1 points))
told-behind {K = K} told faults old run left taken more raw (Stops after stop) is reopens none points shown = (
  subst (λ (r : Run K). WritesFirst told faults old.wiki r.wiki old.tickets.items r.tickets.items (raw ∷ []) left left taken more old.points.items r.points.items) (sym shown.0)
      (subst (λ (ts : List TicketDraft). WritesFirst told faults old.wiki run.wiki old.tickets.items ts (raw ∷ []) left left taken more old.points.items run.points.items) (sym none)
      (all-first told faults old.wiki run.wiki old.tickets.items [] (raw ∷ []) left left taken more old.points.items run.points.items
      (one-in-part told faults old.wiki run.wiki old.tickets.items [] raw left left taken more (restart_reply run.wiki.state (length run.wiki.journal))
      (reply_text (restart_reply run.wiki.state (length run.wiki.journal))) old.points.items run.points.items
      (restart-served told faults old.wiki run.wiki old.tickets.items reopens raw is left) refl shown.1 points))),
  shown.2,
)
told-behind told faults old run left taken more raw (Lost keeper points why) is reopens none pushed shown = absurd shown
