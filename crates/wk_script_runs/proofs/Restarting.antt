-- Restarts, answered and written.
use Rattle.std.proofs.Common.{◌≡◌, ℕ, Bool, true, false, List, [], ◌∷◌, length, Option, Some, refl, sym, ap, ◌∙◌, subst}
use Rattle.std.specs.Prelude.{is_some}
use Rattle.serde_json.specs.Written.{has_float}
use Rattle.wk_table_rules.specs.Rows.{StoreTables}
use Rattle.wk_wiki_rules.specs.States.{State}
use Rattle.wk_core.specs.Seen.{WikiSeen}
use Rattle.wk_answer_rules.specs.ApiErrors.{api_error, storefault}
use Rattle.wk_answer_rules.specs.Values.{ApiReply, reply_beside}
use Rattle.wk_answer_laws.specs.Failures.{is_failure}
use Rattle.wk_answer_laws.proofs.Floats.{reply-plain}
use Rattle.wk_script_rules.specs.Replies.{restart_entries}
use Rattle.wk_script_rules.specs.ScriptLines.{ScriptLine, restart_line, script_line, takes_moment}
use Rattle.wk_script_rules.specs.WikiScripts.{TicketDraft, WikiScript, point_of, restarted}
use Rattle.wk_script_rules.specs.Steps.{line_step}
use Rattle.wk_script_rules.specs.Runs.{LineRun, as_answered, over, untimed}
use Rattle.wk_script_steps.specs.Reopened.{Reopens}
use Rattle.wk_script_steps.specs.Seen.{script_of}
use Rattle.wk_script_runs.specs.Lives.{Lives, an_untold_restart, no_lines}
use Rattle.wk_script_runs.specs.Served.{Served}
use Rattle.wk_script_runs.proofs.Counts.{one-counted}
use Rattle.wk_script_runs.proofs.Lives.{of-run}

-- what is told of a restart
abbrev pub restart_reply : State → ℕ → ApiReply
restart_reply state point = reply_beside (restart_entries state) point

pub restart-plain : (state : State) (point : ℕ) → has_float (restart_reply state point).value ≡ false
restart-plain state point = reply-plain (restart_entries state) point (refl, tt)

restart-is-no-fault : (state : State) (point n : ℕ) → restart_reply state point ≡ api_error storefault n → ⊥
restart-is-no-fault state point n is =
    let failed : is_failure (restart_reply state point).value ≡ true = ap (λ (r : ApiReply). is_failure r.value) is in
    let calm : is_failure (restart_reply state point).value ≡ false = refl in
    let e : true ≡ false = sym failed ∙ calm in
    cc

module _ {K : Type 0} (told : K → Option StoreTables) (faults : K → ℕ) (old new : WikiSeen K) (drafts : List TicketDraft) (reopens : Reopens told faults old drafts new) (raw : Option (List ℕ)) (is : script_line raw ≡ restart_line) where
  -- by the rules
  by-rule : (s t : WikiScript) → t ≡ restarted s → LineRun old.start.limits s 0 restart_line (Some (restart_reply t.state (point_of t))) t
  unfolding line_step
  by-rule s t same =
      subst (λ (u : WikiScript). LineRun old.start.limits s 0 restart_line (Some (restart_reply u.state (point_of u))) u) (sym same) as_answered

  told-restart : is_some (told old.keeper) ≡ true → Lives (is_some (told old.keeper)) old.start.limits (script_of old drafts) (raw ∷ []) [] (restart_reply new.state (length new.journal) ∷ []) (script_of new [])
  told-restart tells =
      of-run (is_some (told old.keeper)) old.start.limits (script_of old drafts) (script_of new []) (raw ∷ []) [] (restart_reply new.state (length new.journal) ∷ [])
      (untimed (ap takes_moment is)
      (subst (λ (l : ScriptLine). LineRun old.start.limits (script_of old drafts) 0 l (Some (restart_reply new.state (length new.journal))) (script_of new [])) (sym is)
      (by-rule (script_of old drafts) (script_of new []) (reopens.told_state tells))) over)

  untold-restart : is_some (told old.keeper) ≡ false → Lives (is_some (told old.keeper)) old.start.limits (script_of old drafts) (raw ∷ []) [] (restart_reply new.state (length new.journal) ∷ []) (script_of new [])
  untold-restart untold =
      let fresh : length new.journal ≡ 0 = ap point_of reopens.begun in
      subst (λ n. Lives (is_some (told old.keeper)) old.start.limits (script_of old drafts) (raw ∷ []) [] (restart_reply new.state n ∷ []) (script_of new [])) (sym fresh)
      (subst (λ t. Lives (is_some (told old.keeper)) old.start.limits (script_of old drafts) (raw ∷ []) [] (restart_reply new.state 0 ∷ []) t) (sym reopens.begun)
      (an_untold_restart untold is new.state no_lines))

  either : (b : Bool) → is_some (told old.keeper) ≡ b → Lives (is_some (told old.keeper)) old.start.limits (script_of old drafts) (raw ∷ []) [] (restart_reply new.state (length new.journal) ∷ []) (script_of new [])
  either true tells = told-restart tells
  either false untold = untold-restart untold

  pub restart-served : (left : Option (List ℕ)) → Served told faults old new drafts [] (raw ∷ []) left left (restart_reply new.state (length new.journal) ∷ [])
  restart-served left = record {
    moments = [];
    lives = either (is_some (told old.keeper)) refl;
    given = refl;
    holds = record { each = tt; rises = tt };
    goes = reopens.goes;
    failed = one-counted (faults old.keeper) (faults new.keeper) (restart_reply new.state (length new.journal))
        (λ same. absurd (restart-is-no-fault new.state (length new.journal) (length new.journal) same)) reopens.goes.never_falls;
  }
