-- What a call leaves of a wiki, by what it leaves of its life and of its keeper.
use Rattle.std.proofs.Common.{◌≡◌, Bool, ℕ, ◌+◌, true, false, List, [], length, Option, Some, None, refl, sym, ap, ◌∙◌, subst, arith, length-take-le}
use Rattle.std.specs.Prelude.{IfSome, is_some}
use Rattle.wk_table_rules.specs.Rows.{StoreTables}
use Rattle.wk_table_rules.specs.Changes.{TableEdit, applied, fits}
use Rattle.wk_wiki_rules.specs.States.{State}
use Rattle.wk_wiki_rules.specs.Events.{Event}
use Rattle.wk_wiki_rules.specs.Tables.{tables_of}
use Rattle.wk_wiki_laws.specs.Makes.{Makes}
use Rattle.wk_life_laws.specs.Lives.{Life, IsLife, journal_of, start_of}
use Rattle.wk_life_laws.specs.Next.{IsNext}
use Rattle.wk_life_laws.specs.Runs.{IsRun}
use Rattle.wk_page_rules.specs.History.{next_revision}
use Rattle.wk_wiki_rules.specs.Lives.{reopened}
use Rattle.wk_wiki_rules.specs.Entries.{entries_from}
use Rattle.wk_life_laws.specs.Next.{Begins, new_start, with_seal}
use Rattle.wk_life_laws.proofs.Lives.{sealed_life}
use Rattle.wk_core.specs.Entries.{entries_seen}
use Rattle.wk_core.specs.LifeHeld.{LifeHeld, KeepsLife}
use Rattle.wk_core.specs.Seen.{failed_where, seen}
use Rattle.wk_core.specs.Steps.{GoesOn, HasMade, HasMadeNothing, KeeperGoesOn}

-- the run of a wiki, whose start tells besides of its keeper
pub seen-run : (life : Life) (whole tells : Bool) (failed : Option ℕ) → IsLife life
    → IsRun (record (start_of life) { whole = whole; tells = tells; failed = failed }) (journal_of life) life.state
seen-run life whole tells failed is = record {
  full = is.run.full;
  kept = is.run.kept;
  none_out = is.run.none_out;
  calls = is.run.calls;
  seal = is.run.seal;
}

-- ---- the keeper

module _ (state : State) where
  pub told-fits : (o : Option StoreTables) (change : List TableEdit) (after : StoreTables) → IfSome o (λ tables. tables ≡ tables_of state) → Makes (tables_of state) change after
      → IfSome o (λ kept. fits kept change ≡ true)
  told-fits None change after told makes = tt
  told-fits (Some tables) change after told makes = ap (λ t. fits t change) told ∙ makes.fitting

  pub told-made : (o new : Option StoreTables) (change : List TableEdit) (next : State) → IfSome o (λ tables. tables ≡ tables_of state) → Makes (tables_of state) change (tables_of next)
      → is_some new ≡ is_some o → IfSome o (λ kept. new ≡ Some (applied kept change)) → IfSome new (λ tables. tables ≡ tables_of next)
  told-made None None change next told makes tells made = tt
  told-made None (Some tables) change next told makes tells made = absurd cc
  told-made (Some tables) new change next told makes tells made =
      let result : applied tables change ≡ tables_of next = ap (λ t. applied t change) told ∙ makes.result in
      subst (λ o. IfSome o (λ t. t ≡ tables_of next)) (sym made) result

pub told-same : (o new : Option StoreTables) (state next : State) → new ≡ o → tables_of next ≡ tables_of state → IfSome o (λ tables. tables ≡ tables_of state) → IfSome new (λ tables. tables ≡ tables_of next)
told-same o new state next same tables told = rw (same, tables) told

-- ---- the wiki

-- a whole keeper has failed as often as before
pub failed-same : (before after : Bool) (old new : ℕ) → after ≡ before → (before ≡ true → new ≡ old) → failed_where after new ≡ failed_where before old
failed-same true after old new same count = ap (λ b. failed_where b new) same ∙ ap (λ n. Some n) (count refl)
failed-same false after old new same count = ap (λ b. failed_where b new) same

module _ {K : Type 0} (told : K → Option StoreTables) (faults : K → ℕ) (is_whole : K → Bool) (before after : K) where
  pub made-from : (old new : Life) (event : Event) → IsNext old event new → is_whole after ≡ is_whole before → is_some (told after) ≡ is_some (told before) → (is_whole before ≡ true → faults after ≡ faults before)
      → HasMade (seen is_whole told faults old before) (seen is_whole told faults new after) event
  made-from old new event next same tells count = record {
    start = λ i. record {
      state = (next.start i).state;
      limits = (next.start i).limits;
      whole = same i;
      tells = tells i;
      failed = failed-same (is_whole before) (is_whole after) (faults before) (faults after) same count i;
      sealed = (next.start i).sealed;
    };
    journal = next.journal;
    stepped = next.done;
  }

  pub nothing-from : (old new : Life) → new ≡ old → told after ≡ told before → is_whole after ≡ is_whole before → (is_whole before ≡ true → faults after ≡ faults before)
      → HasMadeNothing told (seen is_whole told faults old before) (seen is_whole told faults new after)
  nothing-from old new life tables same count = record {
    wiki = λ i. record {
      start = record (start_of (life i)) {
        whole = same i;
        tells = is_some (tables i);
        failed = failed-same (is_whole before) (is_whole after) (faults before) (faults after) same count i;
      };
      journal = journal_of (life i);
      state = (life i).state;
      keeper = after;
    };
    tables = tables;
  }

  pub goes-from : (old new : Life) → KeeperGoesOn told faults is_whole before after → GoesOn told faults (seen is_whole told faults old before) (seen is_whole told faults new after)
  goes-from old new goes_on = record { tells = goes_on.tells; never_falls = goes_on.never_falls; whole = goes_on.whole }

  -- behind a restart
  pub renewed-from : (old new : Life) → Begins new (new_start (reopened old.state) old.limits old.whole) → new.state ≡ reopened old.state → is_whole after ≡ is_whole before
      → seen is_whole told faults new after ≡ record (seen is_whole told faults old after) {
        start = record (seen is_whole told faults old after).start { state = reopened old.state; sealed = None };
        journal = [];
        state = reopened old.state;
      }
  renewed-from old new begins state same = λ i. record {
    start = record {
      state = (begins.start i).state;
      limits = (begins.start i).limits;
      whole = is_whole after;
      tells = is_some (told after);
      failed = failed_where (is_whole after) (faults after);
      sealed = (begins.start i).sealed;
    };
    journal = begins.journal i;
    state = state i;
    keeper = after;
  }

-- ---- entries and seals

-- the entries are those of the journal
pub entries-are : {K : Type 0} (is_whole : K → Bool) (told : K → Option StoreTables) (faults : K → ℕ) (life : Life) (keeper : K) → IsLife life → life.entries ≡ entries_from (life.kept.revisions + 1) (journal_of life) → life.entries ≡ entries_seen (seen is_whole told faults life keeper)
entries-are is_whole told faults life keeper is named =
    let taken = length-take-le life.kept.revisions life.state.history.revisions is.revisions in
    let number : life.kept.revisions + 1 ≡ next_revision (start_of life).state.history = omega (arith, taken) in
    named ∙ ap (λ n. entries_from n (journal_of life)) number

pub sealed-held : (held : LifeHeld) (capacity point : ℕ) → KeepsLife held capacity → length (journal_of held.life) ≡ point → KeepsLife (record held { life = with_seal held.life point }) capacity
sealed-held held capacity point keeps at = record {
  life = sealed_life held.life point keeps.life at;
  few = keeps.few;
  named = keeps.named;
  room = keeps.room;
}
