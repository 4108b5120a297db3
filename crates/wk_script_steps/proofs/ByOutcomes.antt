-- What lines are answered, by what the calls of the wiki answered, whatever it is.
use Rattle.std.proofs.Common.{◌≡◌, ◌≢◌, ℕ, false, true, List, length, codes, Option, Some, None, refl, sym, ap, subst}
use Rattle.std.specs.Prelude.{Err, IfNone, IfOk, IfSome, IsSome, Ok, OnErr, Result, find, option_map}
use Rattle.serde_json.specs.declared.value.Value.{Value}
use Rattle.wk_memory.specs.declared.Memory.{Memory}
use Rattle.wk_base.specs.Faults.{Rose}
use Rattle.wk_table_rules.specs.Rows.{StoreTables}
use Rattle.wk_view_rules.specs.Plans.{done}
use Rattle.wk_view_rules.specs.Views.{Expanded}
use Rattle.wk_view_rules.specs.Worlds.{Read}
use Rattle.wk_wiki_rules.specs.Jobs.{first_fan}
use Rattle.wk_wiki_rules.specs.Steps.{fan_pages}
use Rattle.wk_wiki_rules.specs.States.{world_of}
use Rattle.wk_wiki_rules.specs.Events.{Fan}
use Rattle.wk_wiki_rules.specs.Fans.{next_fan_outcome}
use Rattle.wk_wiki_rules.specs.Room.{is_fan_refused}
use Rattle.wk_wiki_rules.specs.Staleness.{first_stale}
use Rattle.wk_life_laws.specs.Runs.{IsRun}
use Rattle.wk_core.specs.Answers.{event_of_answer, fanned_outcome, told_stale}
use Rattle.wk_core.specs.Seen.{WikiSeen}
use Rattle.wk_core.specs.Steps.{GoesOn, HasMade, HasMadeNothing}
use Rattle.wk_core.specs.declared.outcomes.FanRefusal.{FanRefusal}
use Rattle.wk_core.specs.declared.outcomes.FanRefusal.TheVariants as refusal
use Rattle.wk_core.specs.declared.outcomes.Fanned.{Fanned}
use Rattle.wk_core.specs.declared.outcomes.Finished.{Finished}
use Rattle.wk_core.specs.declared.outcomes.Finished.TheVariants as came
use Rattle.wk_answer_rules.specs.ApiErrors.{api_error, journalfull, nomemory, storefault}
use Rattle.wk_answer_rules.specs.Values.{ApiReply, reply_beside}
use Rattle.wk_script_rules.specs.Replies.{nothing_entries}
use Rattle.wk_script_rules.specs.ScriptLines.{fan_line, finish_line}
use Rattle.wk_script_rules.specs.WikiScripts.{TicketDraft, drafted}
use Rattle.wk_script_steps.specs.Drafts.{has_number, others}
use Rattle.wk_script_steps.specs.Outcomes.{fan_reply, finish_reply}
use Rattle.wk_script_steps.specs.Seen.{Holds, script_of}
use Rattle.wk_script_steps.specs.Told.{Answers}
use Rattle.wk_script_steps.proofs.Calls.{Shows, done-told, failed-back, fan-failed-told, fan-starved, fan-still, fan-told, stale-told, starved-back}
use Rattle.wk_script_steps.proofs.LineRuns.{fan-full, nothing-fanned}

module _ {K : Type 0} (told : K → Option StoreTables) (faults : K → ℕ) (old new : WikiSeen K) (drafts : List TicketDraft) (run : IsRun old.start old.journal old.state) (holds : Holds old.state drafts)
    (keeper : GoesOn told faults old new) (result : Result Value Memory) where
  -- a refresh came in
  module _ (draft : TicketDraft) (found : find (has_number draft.ticket) drafts ≡ Some draft) (expanded : Expanded) (reads : List Read) (is : drafted draft ≡ done expanded reads) where
    pub finish-told : (finished : Finished) → HasMade old new (event_of_answer draft.ticket finished) → (finished ≢ came.Memory → told_stale finished ≡ first_stale (world_of old.state) reads)
        → (finished ≡ came.StoreFault → Rose (faults old.keeper) (faults new.keeper)) → Shows (finish_reply finished (length new.journal)) result
        → Answers told faults 0 (finish_line draft.ticket) old new drafts (others draft.ticket drafts) result
    finish-told came.Done made stale fault value = done-told told faults old new drafts draft run holds keeper found result expanded reads is (sym (stale (λ e. cc))) made value
    finish-told (came.Stale title kind read now) made stale fault value =
        stale-told told faults old new drafts draft run holds keeper found result expanded reads (record { title = title; kind = kind; read = read; now = now }) is (sym (stale (λ e. cc))) made value
    finish-told came.StoreFault made stale fault value = failed-back told faults old new drafts draft run holds keeper found result expanded reads is (sym (stale (λ e. cc))) made (fault refl) value
    finish-told came.Memory made stale fault value = starved-back told faults old new drafts draft run holds keeper found result made value

  -- what shows at the new point shows at the old one, where nothing was made
  still-there : (reply : ℕ → ApiReply) → HasMadeNothing told old new → Shows (reply (length new.journal)) result → Shows (reply (length old.journal)) result
  still-there reply nothing = subst (λ n. Shows (reply n) result) (ap (λ (w : WikiSeen K). length w.journal) nothing.wiki)

  -- a fan
  pub fan-answered : (answer : Result (Option Fanned) FanRefusal) → IfOk answer (λ fanned. option_map fanned_outcome fanned ≡ next_fan_outcome fan_pages old.state)
      → IfOk answer (λ fanned. IfSome fanned (λ _. HasMade old new Fan)) → IfOk answer (λ fanned. IfNone fanned (HasMadeNothing told old new))
      → IfOk answer (λ fanned. IfSome fanned (λ _. is_fan_refused old.start.limits old.state (length old.journal) ≡ false))
      → (answer ≡ Err refusal.JournalFull → IsSome (first_fan old.state.jobs) × (is_fan_refused old.start.limits old.state (length old.journal) ≡ true))
      → OnErr answer (HasMadeNothing told old new)
      → (answer ≡ Err refusal.StoreFault → IsSome (first_fan old.state.jobs) × (is_fan_refused old.start.limits old.state (length old.journal) ≡ false))
      → (answer ≡ Err refusal.StoreFault → Rose (faults old.keeper) (faults new.keeper))
      → Shows (fan_reply answer (length new.journal)) result → Answers told faults 0 fan_line old new drafts drafts result
  fan-answered (Ok None) fanned event none room full refused failed fault value =
      fan-still told faults old new drafts result holds none keeper (reply_beside (nothing_entries (codes "fan")) (length old.journal))
      (nothing-fanned old.start.limits (script_of old drafts) 0 (sym fanned)) (still-there (reply_beside (nothing_entries (codes "fan"))) none value)
  fan-answered (Ok (Some one)) fanned event none room full refused failed fault value =
      fan-told told faults old new (fanned_outcome one) drafts result run holds (sym fanned) room event keeper value
  fan-answered (Err refusal.JournalFull) fanned event none room full refused failed fault value =
      let is = full refl in
      fan-still told faults old new drafts result holds refused keeper (api_error journalfull (length old.journal))
      (fan-full old.start.limits (script_of old drafts) 0 is.0 is.1) (still-there (api_error journalfull) refused value)
  fan-answered (Err refusal.StoreFault) fanned event none room full refused failed fault value =
      let is = failed refl in
      fan-failed-told told faults old new drafts result holds refused keeper is.0 is.1 (fault refl) (still-there (api_error storefault) refused value)
  fan-answered (Err refusal.Memory) fanned event none room full refused failed fault value =
      fan-starved told faults old new drafts result holds refused keeper (still-there (api_error nomemory) refused value)
