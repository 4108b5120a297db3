-- What holds of the start, the journal and the state that a wiki tells.
use Rattle.std.proofs.Common.{◌≡◌, Bool, ℕ, ◌+◌, ◌≤◌, true, false, ◌||◌, List, [], ◌∷◌, ◌++◌, length, take, drop, Option, Some, None, sym, ap, ◌∙◌, inl, inr, subst}
use Rattle.std.proofs.Math.Seq.{take-length}
use Rattle.std.proofs.lemmas.Bool.{cases_Bool}
use Rattle.std.proofs.lemmas.List.{take-append-drop}
use Rattle.std.proofs.lemmas.Option.{option_and_then_some}
use Rattle.wk_page_rules.specs.History.{text_of_revision}
use Rattle.wk_page_rules.specs.Verdict.{MostHeld, max_pages}
use Rattle.wk_table_rules.specs.GoodStore.{IsGood}
use Rattle.wk_view_rules.specs.Worlds.{IsHonest, Read}
use Rattle.wk_wiki_rules.specs.Steps.{fan_pages}
use Rattle.wk_wiki_rules.specs.States.{State}
use Rattle.wk_wiki_rules.specs.Events.{Event, step}
use Rattle.wk_wiki_rules.specs.Lives.{opened, reopened, replay, replay_by, replay_from, state_at}
use Rattle.wk_wiki_rules.specs.Tables.{state_of, tables_of}
use Rattle.wk_wiki_laws.specs.Kept.{IsKept}
use Rattle.wk_wiki_laws.specs.Reached.{IsWithinFull}
use Rattle.wk_wiki_laws.specs.Saves.{Continues, after_saves, saves}
use Rattle.wk_wiki_laws.proofs.HonestReads.{IsHonest-replayed}
use Rattle.wk_wiki_laws.proofs.KeptStates.{IsGood-kept, few-pages}
use Rattle.wk_wiki_laws.proofs.ReadBack.{opened-is, state-back}
use Rattle.wk_wiki_laws.proofs.Saves.{continues-after_saves, history-replayed}
use Rattle.wk_wiki_rules.specs.Calls.{IsMade, no_call, one_more}
use Rattle.wk_wiki_rules.specs.Entries.{KeepsSeal, is_save}
use Rattle.wk_wiki_rules.specs.Passes.{CacheEntry}
use Rattle.wk_wiki_rules.specs.Room.{tickets_out}
use Rattle.wk_wiki_rules.specs.Starts.{Start}
use Rattle.wk_wiki_laws.proofs.KeptCalls.{kept-calls}
use Rattle.wk_wiki_laws.proofs.Parts.{replay-append, replay-calls}
use Rattle.wk_wiki_laws.proofs.SealedHistory.{history-sealed, seal-longer}
use Rattle.wk_life_laws.specs.Caches.{IsLastingEntry}
use Rattle.wk_life_laws.specs.Sound.{IsSoundSince}
use Rattle.wk_life_laws.proofs.LastingEntries.{lasting-replayed}
use Rattle.wk_life_laws.proofs.Since.{IsSoundSince-replayed}
use Rattle.wk_life_laws.specs.Next.{new_start}
use Rattle.wk_life_laws.specs.Runs.{IsRun}

-- ---- the beginning, and an event more

pub run_begun : (state : State) (limits : MostHeld) (whole : Bool) → IsWithinFull limits → IsKept state → tickets_out state ≡ 0 → IsRun (new_start state limits whole) [] state
run_begun state limits whole full kept none = record { full = full; kept = kept; none_out = none; calls = no_call; seal = tt }

seal-next : (sealed : Option ℕ) (journal : List Event) (event : Event) → (is_save event ≡ true → sealed ≡ None) → KeepsSeal sealed journal → KeepsSeal sealed (journal ++ event ∷ [])
seal-next sealed journal event may keeps = elim (cases_Bool (is_save event)) [
  | inl save ↦ subst (λ s. KeepsSeal s (journal ++ event ∷ [])) (sym (may save)) tt
  | inr none ↦ seal-longer sealed journal (event ∷ []) keeps (ap (λ b. b || false) none)
]

pub run_next : (start : Start) (journal : List Event) (state next : State) (event : Event) → IsRun start journal state → IsMade start.limits state (length journal) event → (is_save event ≡ true → start.sealed ≡ None)
    → step state (length journal) event ≡ Some next → IsRun start (journal ++ event ∷ []) next
run_next start journal state next event run made may done = record {
  full = run.full;
  kept = run.kept;
  none_out = run.none_out;
  calls = one_more run.calls made done;
  seal = seal-next start.sealed journal event may run.seal;
}

pub run_whole : (start : Start) (journal : List Event) (state : State) (whole : Bool) → IsRun start journal state → IsRun (record start { whole = whole }) journal state
run_whole start journal state whole run = record {
  full = run.full;
  kept = run.kept;
  none_out = run.none_out;
  calls = run.calls;
  seal = run.seal;
}

-- ---- what follows

module _ (start : Start) (journal : List Event) (state : State) (run : IsRun start journal state) where
  pub run_replayed : replay start.state journal ≡ Some state
  run_replayed = replay-calls fan_pages start.limits start.state state journal run.calls

  pub run_present : state_at start.state journal (length journal) ≡ Some state
  run_present = ap (replay start.state) (take-length journal) ∙ run_replayed

  pub run_kept : IsKept state
  run_kept = kept-calls fan_pages start.limits start.state state journal run.full run.calls run.kept

  pub run_sound : IsSoundSince start.state state
  run_sound = IsSoundSince-replayed fan_pages start.state state 0 journal run.kept.formed run_replayed

  pub run_pages : length state.history.pages ≤ max_pages
  run_pages = few-pages state.history run_kept.history

  pub run_good : IsGood (tables_of state)
  run_good = IsGood-kept state run_kept

  pub run_back : state_of (tables_of state) ≡ reopened state
  run_back = state-back state run_kept

  pub run_opened : opened (tables_of state) ≡ reopened state
  run_opened = opened-is state run_kept

  pub run_saves : state.history ≡ after_saves start.state.history (saves journal)
  run_saves = history-replayed fan_pages start.state state 0 journal run_replayed

  pub run_continues : Continues start.state.history (saves journal) state.history
  run_continues = continues-after_saves start.state.history (saves journal) state.history run_saves

  -- the journal in two parts
  pub run_parts : (point : ℕ) → (middle : State) × ((state_at start.state journal point ≡ Some middle) × (replay_from fan_pages middle (0 + length (take point journal)) (drop point journal) ≡ Some state))
  run_parts point =
      let joined : replay start.state (take point journal ++ drop point journal) ≡ Some state = ap (replay start.state) (take-append-drop point journal) ∙ run_replayed in
      let parts = replay-append fan_pages start.state 0 (take point journal) (drop point journal) in
      option_and_then_some (λ middle. replay_from fan_pages middle (0 + length (take point journal)) (drop point journal)) (replay_by fan_pages start.state (take point journal)) state (sym parts ∙ joined)
      (λ middle first later. (middle, (first, later)))

  pub run_later : (middle : State) (point : ℕ) → state_at start.state journal point ≡ Some middle → replay_from fan_pages middle (0 + length (take point journal)) (drop point journal) ≡ Some state
  run_later middle point at =
      let parts = run_parts point in
      let both : Some parts.0 ≡ Some middle = sym parts.1.0 ∙ at in
      let same : parts.0 ≡ middle = cc in
      subst (λ (s : State). replay_from fan_pages s (0 + length (take point journal)) (drop point journal) ≡ Some state) same parts.1.1

  pub run_honest : (middle : State) (point : ℕ) (reads : List Read) → state_at start.state journal point ≡ Some middle → IsHonest (text_of_revision middle.history) reads → IsHonest (text_of_revision state.history) reads
  run_honest middle point reads at honest = IsHonest-replayed fan_pages middle state (0 + length (take point journal)) (drop point journal) reads (run_later middle point at) honest

  pub run_lasting : (middle : State) (point : ℕ) (entry : CacheEntry) → state_at start.state journal point ≡ Some middle → IsLastingEntry middle entry → IsLastingEntry state entry
  run_lasting middle point entry at lasting = lasting-replayed fan_pages middle state (0 + length (take point journal)) (drop point journal) entry (run_later middle point at) lasting

  pub run_sealed : (middle : State) (point : ℕ) → start.sealed ≡ Some point → state_at start.state journal point ≡ Some middle → state.history ≡ middle.history
  run_sealed middle point sealed at = history-sealed fan_pages start.state middle state point journal (subst (λ s. KeepsSeal s journal) sealed run.seal) at run_replayed
