-- What is added to a journal behind a seal.
use Rattle.std.proofs.Common.{◌≡◌, ℕ, ◌+◌, Bool, true, false, List, [], ◌∷◌, ◌++◌, length, take, drop, Some, None, refl, sym, ap, ◌∙◌, subst}
use Rattle.std.proofs.lemmas.Bool.{or_parts}
use Rattle.std.proofs.lemmas.List.{drop_at, take_at}
use Rattle.std.proofs.lemmas.Option.{option_and_then_some}
use Rattle.std.specs.Prelude.{find, option_map, slice_get}
use Rattle.std.specs.List.{list_any}
use Rattle.wk_wiki_rules.specs.Jobs.{FanEntry, RefreshEntry, claimed_by, given_back, is_held_by, is_queued}
use Rattle.wk_wiki_rules.specs.Steps.{after_serving, fan_pages}
use Rattle.wk_wiki_rules.specs.States.{State}
use Rattle.wk_wiki_rules.specs.Events.{Event, Save, Claim, Done, Back, Fan, step_by, with_jobs, with_refreshed}
use Rattle.wk_wiki_rules.specs.Lives.{replay, replay_from, state_at}
use Rattle.wk_wiki_rules.specs.Entries.{KeepsSeal, is_save}
use Rattle.wk_wiki_rules.specs.Starts.{Start}
use Rattle.wk_wiki_laws.proofs.NumberBounds.{sum-replay}
use Rattle.wk_life_laws.specs.Runs.{IsRun}
use Rattle.wk_life_laws.proofs.RunFacts.{run_kept, run_later, run_replayed, run_sealed}
use Rattle.wk_tool_laws.specs.Sealed.{AddsJobs, IsSealedAt}

-- ---- where no job stands

no-page : (f : ℕ → State) (p : RefreshEntry → Bool) (jobs : List RefreshEntry) → jobs ≡ [] → option_map f (option_map (λ (job : RefreshEntry). job.page) (find p jobs)) ≡ None
no-page f p jobs none = ap (λ (js : List RefreshEntry). option_map f (option_map (λ (job : RefreshEntry). job.page) (find p js))) none

-- no event but a save is possible
no-event : (served : ℕ) (state next : State) (journal : ℕ) (event : Event) → state.jobs.refreshes ≡ [] → state.jobs.fans ≡ [] → is_save event ≡ false → step_by served state journal event ≡ Some next → ⊥
no-event served state next journal (Save title text moment) refreshes fans none done = let e : true ≡ false = none in cc
no-event served state next journal Claim refreshes fans none done =
    let e : None ≡ Some next = sym (no-page (λ _. with_jobs state (claimed_by state.jobs (journal + 1))) is_queued state.jobs.refreshes refreshes) ∙ done in cc
no-event served state next journal (Done ticket) refreshes fans none done =
    let e : None ≡ Some next = sym (no-page (λ page. with_refreshed state page) (is_held_by ticket) state.jobs.refreshes refreshes) ∙ done in cc
no-event served state next journal (Back ticket) refreshes fans none done =
    let e : None ≡ Some next = sym (no-page (λ page. with_jobs state (given_back state.jobs page)) (is_held_by ticket) state.jobs.refreshes refreshes) ∙ done in cc
no-event served state next journal Fan refreshes fans none done =
    let e : None ≡ Some next =
    sym (ap (λ (fs : List FanEntry). option_map (λ jobs. with_jobs state jobs) (option_map (after_serving state.stored served state.jobs) (slice_get fs 0))) fans) ∙ done
    in cc

no-events : (served : ℕ) (state last : State) (journal : ℕ) (events : List Event) → state.jobs.refreshes ≡ [] → state.jobs.fans ≡ [] → list_any is_save events ≡ false → replay_from served state journal events ≡ Some last → last ≡ state
no-events served state last journal [] refreshes fans none done = let e : Some state ≡ Some last = done in cc
no-events served state last journal (event ∷ events) refreshes fans none done =
    let parts = or_parts (is_save event) (list_any is_save events) none in
    option_and_then_some (λ next. replay_from served next (journal + 1) events) (step_by served state journal event) last done
    (λ next stepped later. absurd (no-event served state next journal event refreshes fans parts.0 stepped))

-- ---- behind the seal

module _ (old new : Start) (before after : List Event) (state last : State) (run : IsRun old before state) (later : IsRun new after last) (sealed : IsSealedAt old new before after) where
  abbrev added : List Event
  added = sealed.journal.0

  joined : before ++ added ≡ after
  joined = sealed.journal.1

  began : new.state ≡ old.state
  began = ap (λ (s : Start). s.state) sealed.start

  behind : drop (length before) after ≡ added
  behind = ap (drop (length before)) (sym joined) ∙ drop_at before added (length before) refl

  ahead-of : take (length before) after ≡ before
  ahead-of = ap (take (length before)) (sym joined) ∙ take_at before added (length before) refl

  at-seal : state_at new.state after (length before) ≡ Some state
  at-seal = ap (replay new.state) ahead-of ∙ (ap (λ s. replay s before) began ∙ run_replayed old before state run)

  no-saves : list_any is_save added ≡ false
  no-saves =
      let keeps : list_any is_save (drop (length before) after) ≡ false = subst (λ s. KeepsSeal s after) (ap (λ (s : Start). s.sealed) sealed.start) later.seal in
      ap (list_any is_save) (sym behind) ∙ keeps

  then : replay_from fan_pages state (0 + length (take (length before) after)) added ≡ Some last
  then = ap (replay_from fan_pages state (0 + length (take (length before) after))) (sym behind) ∙ run_later new after last later state (length before) at-seal

  pub adds-jobs : AddsJobs old before after state last
  adds-jobs = record {
    added = added;
    journal = sym joined;
    no_save = no-saves;
    replayed = ap (replay old.state) joined ∙ (ap (λ s. replay s after) (sym began) ∙ run_replayed new after last later);
    history = run_sealed new after last later state (length before) (ap (λ (s : Start). s.sealed) sealed.start) at-seal;
    ahead = sum-replay fan_pages state last (0 + length (take (length before) after)) added (run_kept old before state run).formed no-saves then;
    nothing = λ refreshes fans. no-events fan_pages state last (0 + length (take (length before) after)) added refreshes fans no-saves then;
  }
