-- How a run ends, by what stands behind all lines.
use Rattle.std.proofs.Common.{◌≡◌, ℕ, List, [], false, refl, sym, subst, arith}
use Rattle.std.proofs.KnownBytes.{Consumes-nil}
use Rattle.std.specs.Prelude.{Option, Result, Ok, Err}
use Rattle.wk_text_rules.specs.Lines.{lines}
use Rattle.wk_table_rules.specs.Rows.{StoreTables}
use Rattle.wk_lines.specs.declared.stop.Stop.{Stop}
use Rattle.wk_lines.specs.declared.stop.Stop.TheVariants as stop
use Rattle.wk_core.specs.Seen.{IsTold, WikiSeen}
use Rattle.wk_core.specs.declared.outcomes.LoadCause.{LoadCause}
use Rattle.wk_core.specs.declared.outcomes.LoadCause.TheVariants as cause
use Rattle.wk_script_rules.specs.WikiScripts.{TicketDraft}
use Rattle.wk_script_rules.specs.Runs.{max_line}
use Rattle.wk_script_runs.specs.Outside.{Outside}
use Rattle.wk_script_runs.specs.Through.{IsPartThrough, IsThrough, LosesStore, StopsWithin}
use Rattle.wk_script_runs.proofs.Ended.{cut-back, cut-lost, whole-run}
use Rattle.wk_script_runs.proofs.Serving.{nothing-in-part}
use Rattle.wk_script.specs.Behind.{HasComeIn}
use Rattle.wk_script.specs.Report.{IsRunTo, end_of_cause, end_of_stop}
use Rattle.wk_script.specs.declared.script.ScriptEnd.{ScriptEnd}
use Rattle.wk_script.specs.declared.script.ScriptEnd.TheVariants.{Done, Memory}

module _ {K : Type 0} (told : K → Option StoreTables) (faults : K → ℕ) (old new : WikiSeen K) (drafts : List TicketDraft) (before after : Outside) (points : List ℕ) where
  -- all lines were answered
  pub ended : (end : ScriptEnd) (handed : Result (WikiSeen K) K) (told_points : List ℕ) → end ≡ Done → IsThrough told faults old new drafts before after points
      → HasComeIn told new drafts handed → told_points ≡ points → IsRunTo told faults old before after end told_points handed
  ended end (Ok wiki) told_points is through back same =
      subst (λ (ps : List ℕ). IsRunTo told faults old before after end ps (Ok wiki)) (sym same)
      (subst (λ (e : ScriptEnd). IsRunTo told faults old before after e points (Ok wiki)) (sym is)
      (whole-run told faults old new drafts before after points wiki through back.0 back.1 back.2))
  ended end (Err keeper) told_points is through back same = absurd back

  -- it stopped
  by-stop : (s : Stop) (wiki : WikiSeen K) → StopsWithin told faults old new drafts before after points s
      → HasComeIn told new drafts (Ok wiki) → IsRunTo told faults old before after (end_of_stop s) points (Ok wiki)
  by-stop stop.Memory wiki stops back = record {
    read = stops.read;
    run = cut-back told faults old new drafts before after points wiki stops.read ⊥ stops.part back.0 back.1 back.2;
    bound = λ is. absurd (cc is);
  }
  by-stop stop.ReadFault wiki stops back = record {
    read = stops.read;
    run = cut-back told faults old new drafts before after points wiki stops.read (Unit {0}) stops.part back.0 back.1 back.2;
    bound = λ is. absurd (cc is);
  }
  by-stop stop.WriteFault wiki stops back = record {
    read = stops.read;
    run = cut-back told faults old new drafts before after points wiki stops.read ⊥ stops.part back.0 back.1 back.2;
    bound = λ is. absurd (cc is);
  }
  by-stop stop.Bound wiki stops back = record {
    read = stops.read;
    run = cut-back told faults old new drafts before after points wiki stops.read (Unit {0}) stops.part back.0 back.1 back.2;
    bound = λ is. stops.bound refl;
  }

  pub stopped : (s : Stop) (end : ScriptEnd) (handed : Result (WikiSeen K) K) (told_points : List ℕ) → end ≡ end_of_stop s → StopsWithin told faults old new drafts before after points s
      → HasComeIn told new drafts handed → told_points ≡ points → IsRunTo told faults old before after end told_points handed
  stopped s end (Ok wiki) told_points is stops back same =
      subst (λ (ps : List ℕ). IsRunTo told faults old before after end ps (Ok wiki)) (sym same)
      (subst (λ (e : ScriptEnd). IsRunTo told faults old before after e points (Ok wiki)) (sym is) (by-stop s wiki stops back))
  stopped s end (Err keeper) told_points is stops back same = absurd back

-- a restart didn't open the store
module _ {K : Type 0} (told : K → Option StoreTables) (faults : K → ℕ) (old : WikiSeen K) (keeper : K) (before after : Outside) (points : List ℕ) where
  by-cause : (why : LoadCause) → LosesStore told faults old keeper before after points why → IsRunTo told faults old before after (end_of_cause why) points (Err keeper)
  by-cause cause.StoreFault loses = record {
    read = loses.read;
    run = cut-lost told faults old loses.wiki loses.drafts before after points cause.StoreFault keeper loses.read ⊥ loses.part loses.lost;
    bound = λ is. absurd (cc is);
  }
  by-cause (cause.BadStore bad) loses = record {
    read = loses.read;
    run = cut-lost told faults old loses.wiki loses.drafts before after points (cause.BadStore bad) keeper loses.read ⊥ loses.part loses.lost;
    bound = λ is. absurd (cc is);
  }
  by-cause cause.Memory loses = record {
    read = loses.read;
    run = cut-lost told faults old loses.wiki loses.drafts before after points cause.Memory keeper loses.read ⊥ loses.part loses.lost;
    bound = λ is. absurd (cc is);
  }

  pub lost-end : (why : LoadCause) (end : ScriptEnd) → end ≡ end_of_cause why → LosesStore told faults old keeper before after points why
      → IsRunTo told faults old before after end points (Err keeper)
  lost-end why end is loses = subst (λ (e : ScriptEnd). IsRunTo told faults old before after e points (Err keeper)) (sym is) (by-cause why loses)

-- nothing was read
pub unrun : {K : Type 0} (told : K → Option StoreTables) (faults : K → ℕ) (wiki : WikiSeen K) (before : Outside) → IsTold told wiki.state wiki.keeper
    → IsRunTo told faults wiki before before Memory [] (Ok wiki)
unrun told faults wiki before tables = record {
  read = [];
  run = cut-back told faults wiki wiki [] before before [] wiki [] ⊥ none refl refl tables;
  bound = λ is. absurd (cc is);
}
  where
    none : IsPartThrough told faults wiki wiki [] before before [] [] ⊥
    none = record {
      done = [];
      first = record {
        consumed = Consumes-nil before.rest;
        few = omega arith;
        ended = false;
        at_end = λ is. absurd (cc is);
        whole = λ more. (lines max_line more, refl);
      };
      part = nothing-in-part told faults wiki [] before.moments before.taken [] (record { each = tt; rises = tt });
      all = λ never. absurd never;
    }

-- the same of a report that says so
pub unbegun-run : {K : Type 0} (told : K → Option StoreTables) (faults : K → ℕ) (wiki : WikiSeen K) (before : Outside) (end : ScriptEnd) (points : List ℕ) (handed : Result (WikiSeen K) K)
    → end ≡ Memory → points ≡ [] → handed ≡ Ok wiki → IsTold told wiki.state wiki.keeper → IsRunTo told faults wiki before before end points handed
unbegun-run {K = K} told faults wiki before end points handed is none same tables =
    subst (λ (h : Result (WikiSeen K) K). IsRunTo told faults wiki before before end points h) (sym same)
    (subst (λ (ps : List ℕ). IsRunTo told faults wiki before before end ps (Ok wiki)) (sym none)
    (subst (λ (e : ScriptEnd). IsRunTo told faults wiki before before e [] (Ok wiki)) (sym is) (unrun told faults wiki before tables)))
