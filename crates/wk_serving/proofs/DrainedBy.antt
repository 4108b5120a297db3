-- Wikis that many threads drain.
use Rattle.std.proofs.Common.{◌≡◌, ℕ, ◌≤◌, ◌<◌, Bool, true, List, [], ◌++◌, inl, inr, refl, sym, ap, ap₂, ◌∙◌, subst, append_assoc, arith}
use Rattle.std.specs.Prelude.{◌||◌}
use Rattle.std.proofs.lemmas.List.Folds.{list_any-append}
use Rattle.wk_base.specs.Faults.{Rose}
use Rattle.wk_wiki_rules.specs.Events.{Event}
use Rattle.wk_wiki_rules.specs.Lives.{replay}
use Rattle.wk_wiki_rules.specs.Entries.{is_save}
use Rattle.wk_wiki_rules.specs.Starts.{Start}
use Rattle.wk_life_laws.specs.Runs.{IsRun}
use Rattle.wk_core.specs.Seen.{WikiSeen, failed_where}
use Rattle.wk_core.proofs.WikiSteps.{failed-same}
use Rattle.wk_tool_laws.specs.Sealed.{AddsJobs, IsSealedAt}
use Rattle.wk_tool_laws.proofs.JobsAdded.{adds-jobs}
use Rattle.wk_tools.specs.Drains.{CanBeFull, HasNoJob}
use Rattle.wk_tools.specs.Lived.{HasLived}
use Rattle.wk_tools.specs.declared.drains.DrainEnd.{DrainEnd}
use Rattle.wk_tools.specs.declared.drains.DrainEnd.TheVariants.{Done, JournalFull, StoreFault, Memory}
use Rattle.wk_serving.specs.Drains.{IsDrainedBy}

-- a whole keeper has failed as often as before
pub failed-behind : {K : Type 0} (faults : K → ℕ) (is_whole : K → Bool) (old new : WikiSeen K) → is_whole old.keeper ≡ old.start.whole → is_whole new.keeper ≡ new.start.whole
    → failed_where (is_whole old.keeper) (faults old.keeper) ≡ old.start.failed → failed_where (is_whole new.keeper) (faults new.keeper) ≡ new.start.failed → new.start.whole ≡ old.start.whole
    → (old.start.whole ≡ true → faults new.keeper ≡ faults old.keeper) → new.start.failed ≡ old.start.failed
failed-behind faults is_whole old new before after failed_before failed_after same count =
    let whole : is_whole new.keeper ≡ is_whole old.keeper = after ∙ (same ∙ sym before) in
    let failed : failed_where (is_whole new.keeper) (faults new.keeper) ≡ failed_where (is_whole old.keeper) (faults old.keeper) =
    failed-same (is_whole old.keeper) (is_whole new.keeper) (faults old.keeper) (faults new.keeper) whole (λ is. count (sym before ∙ is)) in
    sym failed_after ∙ (failed ∙ failed_before)

-- a count that rose isn't 0
risen : (before now : ℕ) → Rose before now → 1 ≤ now
risen before now rose = omega (arith, rose)

module _ {K : Type 0} (faults : K → ℕ) (old middle : WikiSeen K) (run : IsRun old.start old.journal old.state) (later : IsRun middle.start middle.journal middle.state)
    (sealed : IsSealedAt old.start middle.start old.journal middle.journal) where
  abbrev jobs : AddsJobs old.start old.journal middle.journal old.state middle.state
  jobs = adds-jobs old.start middle.start old.journal middle.journal old.state middle.state run later sealed

  limits : middle.start.limits ≡ old.start.limits
  limits = ap (λ (s : Start). s.limits) sealed.start

  none-left : HasNoJob old.state → HasNoJob middle.state
  none-left none = subst HasNoJob (sym (jobs.nothing none.refreshes none.fans)) none

  full-before : CanBeFull middle → CanBeFull old
  full-before full = record {
    left = λ none. full.left (none-left none);
    cause = elim full.cause [
      | inl short ↦ inl (subst (λ m. m.journal < 2) limits short)
      | inr high ↦ inr (let low = jobs.ahead in omega (arith, high, low))
    ];
  }

  -- memory was wanting, and nothing was done behind the workers
  pub drained-by-workers : IsDrainedBy faults old middle Memory
  drained-by-workers = record {
    lived = record {
      added = jobs.added;
      ended = middle.state;
      later = [];
      goes_on = jobs.replayed;
      lives = refl;
      adds_no_save = jobs.no_save;
      saves_nothing = refl;
    };
    history = jobs.history;
    limits = limits;
    whole = ap (λ (s : Start). s.whole) sealed.start;
    tells = ap (λ (s : Start). s.tells) sealed.start;
    failed = ap (λ (s : Start). s.failed) sealed.start;
    done = λ is. absurd (let e : Memory ≡ Done = is in cc);
    full = λ is. absurd (let e : Memory ≡ JournalFull = is in cc);
    fault = λ is. absurd (let e : Memory ≡ StoreFault = is in cc);
  }

  module _ (new : WikiSeen K) (lived : HasLived middle new) where
    joined : old.journal ++ (jobs.added ++ lived.added) ≡ middle.journal ++ lived.added
    joined = sym (append_assoc old.journal jobs.added lived.added) ∙ ap (λ (j : List Event). j ++ lived.added) (sym jobs.journal)

    both-lived : HasLived old new
    both-lived = record {
      added = jobs.added ++ lived.added;
      ended = lived.ended;
      later = lived.later;
      goes_on = ap (replay old.start.state) joined ∙ (ap (λ (s : Start). replay s.state (middle.journal ++ lived.added)) (sym sealed.start) ∙ lived.goes_on);
      lives = lived.lives;
      adds_no_save = list_any-append is_save jobs.added lived.added ∙ ap₂ (λ a b. a || b) jobs.no_save lived.adds_no_save;
      saves_nothing = lived.saves_nothing;
    }

    -- what was left was done on one thread
    pub drained-whole : (end : DrainEnd) → new.state.history ≡ middle.state.history → new.start.limits ≡ middle.start.limits → new.start.whole ≡ middle.start.whole → new.start.tells ≡ middle.start.tells
        → new.start.failed ≡ middle.start.failed → (end ≡ Done → HasNoJob new.state) → (end ≡ JournalFull → CanBeFull middle) → (end ≡ StoreFault → Rose (faults middle.keeper) (faults new.keeper)) → IsDrainedBy faults old new end
    drained-whole end history same_limits same_whole same_tells same_failed done full fault = record {
      lived = both-lived;
      history = history ∙ jobs.history;
      limits = same_limits ∙ limits;
      whole = same_whole ∙ ap (λ (s : Start). s.whole) sealed.start;
      tells = same_tells ∙ ap (λ (s : Start). s.tells) sealed.start;
      failed = same_failed ∙ ap (λ (s : Start). s.failed) sealed.start;
      done = done;
      full = λ is. full-before (full is);
      fault = λ is. risen (faults middle.keeper) (faults new.keeper) (fault is);
    }
