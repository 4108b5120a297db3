-- What holds of a life that begins.
use Rattle.std.proofs.Common.{◌≡◌, ℕ, ◌≤◌, true, false, cond, eqb, ne_eqb, Result, Ok, Err, List, [], Option, Some, None, refl, sym, ap, ◌∙◌, subst, arith}
use Rattle.wk_page_rules.specs.Verdict.{MostHeld, max_journal}
use Rattle.wk_table_rules.specs.Rows.{StoreTables}
use Rattle.wk_table_rules.specs.GoodStore.{IsGood, first_broken}
use Rattle.wk_wiki_rules.specs.Steps.{reopened_jobs}
use Rattle.wk_wiki_rules.specs.States.{State}
use Rattle.wk_wiki_rules.specs.Lives.{all_refreshed, opened, reopened}
use Rattle.wk_wiki_rules.specs.Tables.{state_of, tables_of}
use Rattle.wk_wiki_laws.specs.Reached.{IsWithinFull}
use Rattle.wk_wiki_rules.specs.Room.{tickets_out}
use Rattle.wk_wiki_rules.specs.Starts.{StartKept, kept_of}
use Rattle.wk_wiki_laws.proofs.Room.{out-reopened}
use Rattle.wk_wiki_laws.proofs.StoresOpened.{migration-makes, reopened-again}
use Rattle.wk_wiki_rules.specs.TableChanges.{migration}
use Rattle.wk_table_rules.specs.Changes.{TableEdit, applied, fits}
use Rattle.std.specs.Prelude.{IfOk, IfSome, OnOk, is_some}
use Rattle.wk_life_laws.specs.Lives.{Life, journal_of, start_of}
use Rattle.wk_wiki_rules.specs.declared.Entry.{Entry}
use Rattle.wk_life_laws.specs.Next.{Begins, begun, new_start}
use Rattle.wk_life_laws.proofs.Lives.{opened_life, reopened_life}
use Rattle.wk_life_laws.proofs.RunFacts.{run_kept}
use Rattle.wk_live.specs.HeldState.{Rooms}
use Rattle.wk_core.specs.LifeHeld.{LifeHeld, KeepsLife}
use Rattle.wk_core.specs.Limits.{AreWithinFull}

pub within-full : (most : MostHeld) → AreWithinFull most → IsWithinFull most
within-full most within = record { pages = within.pages; text = within.text }

-- the state of tables before the restart with which they are opened
abbrev unopened : StoreTables → State
unopened tables = cond (eqb tables.version 1) (all_refreshed (state_of tables)) (state_of tables)

-- an opened wiki is as behind a restart
pub opened-again : (tables : StoreTables) → reopened (opened tables) ≡ opened tables
opened-again tables = reopened-again (unopened tables)

abbrev pub begun-held : State → MostHeld → Rooms → LifeHeld
begun-held state limits room = record { life = begun state limits false; room = room; spare = 0 }

begins-held : (state : State) (limits : MostHeld) (room : Rooms) (capacity : ℕ) → Begins (begun state limits false) (new_start state limits false) → limits.journal ≤ max_journal
    → tickets_out state ≡ 0 → KeepsLife (begun-held state limits room) capacity
begins-held state limits room capacity begins few none = record {
  life = begins.is;
  few = few;
  named = refl;
  room = omega (arith, none);
}

-- ---- over a store

module _ (tables : StoreTables) (limits : MostHeld) (good : IsGood tables) (within : AreWithinFull limits) where
  pub opened-begins : Begins (begun (opened tables) limits false) (new_start (opened tables) limits false)
  opened-begins = opened_life tables limits false (within-full limits within) good

  pub opened-held : (state : State) (room : Rooms) (capacity : ℕ) → state ≡ opened tables → KeepsLife (begun-held state limits room) capacity
  opened-held state room capacity is =
      let none : tickets_out (opened tables) ≡ 0 = out-reopened (unopened tables) in
      rw is (begins-held (opened tables) limits room capacity opened-begins within.journal none)

-- what is kept of its start, where its jobs are kept as they stood before
abbrev kept-before : StartKept → StartKept
kept-before kept = record kept { jobs = reopened_jobs kept.jobs }

pub opened-kept : (tables : StoreTables) → kept-before (kept_of (opened tables)) ≡ kept_of (opened tables)
opened-kept tables = ap kept_of (opened-again tables)

-- ---- behind a restart

pub renewed-begins : (held : LifeHeld) (capacity : ℕ) → KeepsLife held capacity
    → Begins (begun (reopened held.life.state) held.life.limits false) (new_start (reopened held.life.state) held.life.limits false)
renewed-begins held capacity keeps =
    let run = keeps.life.run in
    reopened_life held.life.state held.life.limits false run.full (run_kept (start_of held.life) (journal_of held.life) held.life.state run)

pub renewed-held : (held : LifeHeld) (capacity : ℕ) (room : Rooms) (more : ℕ) → KeepsLife held capacity → KeepsLife (begun-held (reopened held.life.state) held.life.limits room) more
renewed-held held capacity room more keeps =
    begins-held (reopened held.life.state) held.life.limits room more (renewed-begins held capacity keeps) keeps.few (out-reopened held.life.state)

-- ---- a store of version 1

module _ (tables : StoreTables) (good : IsGood tables) (o : Option StoreTables) where
  pub migrated-fits : (change : List TableEdit) → IfSome o (λ kept. kept ≡ tables) → change ≡ migration tables → IfSome o (λ kept. fits kept change ≡ true)
  migrated-fits change told is = by o told
    where
      by : (old : Option StoreTables) → IfSome old (λ kept. kept ≡ tables) → IfSome old (λ kept. fits kept change ≡ true)
      by None none = tt
      by (Some kept) same = ap (λ t. fits t change) same ∙ (ap (fits tables) is ∙ (migration-makes tables good).fitting)

  pub migrated-told : {E : Type 0} (result : Result (Unit {0}) E) (new : Option StoreTables) (change : List TableEdit) → IfSome o (λ kept. kept ≡ tables) → change ≡ migration tables
      → is_some new ≡ is_some o → OnOk result (IfSome o (λ kept. new ≡ Some (applied kept change))) → OnOk result (IfSome new (λ told. told ≡ tables_of (opened tables)))
  migrated-told (Err e) new change told is tells made = tt
  migrated-told (Ok x) new change told is tells made = by o new told tells made
    where
      by : (old now : Option StoreTables) → IfSome old (λ kept. kept ≡ tables) → is_some now ≡ is_some old → IfSome old (λ kept. now ≡ Some (applied kept change)) → IfSome now (λ t. t ≡ tables_of (opened tables))
      by None None none same nothing = tt
      by None (Some t) none same nothing = absurd cc
      by (Some kept) now was same is_now =
          let result : applied kept change ≡ tables_of (opened tables) = ap (λ t. applied t change) was ∙ (ap (applied tables) is ∙ (migration-makes tables good).result) in
          subst (λ n. IfSome n (λ t. t ≡ tables_of (opened tables))) (sym is_now) result

  -- tables of another version are those of the wiki that is opened over them
  pub newest-told : (tables.version ≡ 1 → ⊥) → IfSome o (λ kept. kept ≡ tables) → IfSome o (λ told. told ≡ tables_of (opened tables))
  newest-told newer told = by o told
    where
      same : tables ≡ tables_of (opened tables)
      same =
          let other : eqb tables.version 1 ≡ false = ne_eqb tables.version 1 newer in
          let none : migration tables ≡ [] = rw other refl in
          sym (ap (applied tables) none) ∙ (migration-makes tables good).result

      by : (old : Option StoreTables) → IfSome old (λ kept. kept ≡ tables) → IfSome old (λ t. t ≡ tables_of (opened tables))
      by None none = tt
      by (Some kept) was = was ∙ same

-- ---- what is begun over tables that were loaded

module _ (tables : StoreTables) (limits : MostHeld) (good : IsGood tables) (within : AreWithinFull limits) where
  abbrev life-of : StartKept → List Entry → State → Life
  life-of kept entries state = record { kept = kept; limits = limits; whole = false; sealed = None; entries = entries; state = state }

  kept-is : (state : State) (kept : StartKept) → state ≡ opened tables → kept ≡ kept_of state → kept-before kept ≡ kept_of state
  kept-is state kept is same = ap kept-before same ∙ subst (λ s. kept-before (kept_of s) ≡ kept_of s) (sym is) (opened-kept tables)

  pub loaded-held : (state : State) (kept : StartKept) (entries : List Entry) (room : Rooms) (capacity : ℕ) → state ≡ opened tables → kept ≡ kept_of state → entries ≡ []
      → KeepsLife (record { life = life-of (kept-before kept) entries state; room = room; spare = 0 }) capacity
  loaded-held state kept entries room capacity is same none =
      subst (λ e. KeepsLife (record { life = life-of (kept-before kept) e state; room = room; spare = 0 }) capacity) (sym none)
      (subst (λ k. KeepsLife (record { life = life-of k [] state; room = room; spare = 0 }) capacity) (sym (kept-is state kept is same))
      (opened-held tables limits good within state room capacity is))

  pub loaded-begins : (state : State) (kept : StartKept) (entries : List Entry) → state ≡ opened tables → kept ≡ kept_of state → entries ≡ []
      → Begins (life-of (kept-before kept) entries state) (new_start (opened tables) limits false)
  loaded-begins state kept entries is same none =
      subst (λ e. Begins (life-of (kept-before kept) e state) (new_start (opened tables) limits false)) (sym none)
      (subst (λ k. Begins (life-of k [] state) (new_start (opened tables) limits false)) (sym (kept-is state kept is same))
      (subst (λ s. Begins (life-of (kept_of s) [] s) (new_start (opened tables) limits false)) (sym is) (opened-begins tables limits good within)))

-- what is as it is opened is as behind a restart
pub loaded-again : (tables : StoreTables) (state : State) → state ≡ opened tables → reopened state ≡ state
loaded-again tables state is = subst (λ s. reopened s ≡ s) (sym is) (opened-again tables)

-- what was opened over these tables was opened over those that are told
pub opened-told : (o : Option StoreTables) (tables : StoreTables) (state : State) → IfSome o (λ kept. tables ≡ kept) → first_broken tables ≡ None → state ≡ opened tables
    → IfSome o (λ t. (first_broken t ≡ None) × (state ≡ opened t))
opened-told None tables state given good is = tt
opened-told (Some kept) tables state given good is = (subst (λ t. first_broken t ≡ None) given good, is ∙ ap opened given)

pub both-ok : {A E : Type 0} (P Q R : A → Type 0) (result : Result A E) → ((a : A) → P a → Q a → R a) → IfOk result P → IfOk result Q → IfOk result R
both-ok P Q R (Ok a) f p q = f a p q
both-ok P Q R (Err e) f p q = tt

-- a refusal is told by what is refused with it
pub same-refusal : {A E : Type 0} {refusal other : E} → (let refused : Result A E = Err refusal in refused) ≡ Err other → refusal ≡ other
same-refusal is = cc
