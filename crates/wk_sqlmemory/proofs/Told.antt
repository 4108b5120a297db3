-- What a store in memory tells is what it keeps.
use Rattle.std.proofs.Common.{◌≡◌, ◌<◌, ◌^◌, inl, inr, ℕ, true, List, [], ◌∷◌, ◌++◌, map, drop, Some, Ok, Err, Result, IfOk, OnOk, OnErr, refl, sym, ap, ◌∙◌, arith, Ordering}
use Rattle.std.proofs.Math.Logic.{∥∥₁_elim}
use Rattle.std.proofs.Props.{props}
use Rattle.std.specs.List.{AllByRecursion}
use Rattle.sqlite_value.specs.Order.{Row}
use Rattle.sqlite_trees.specs.Tree.{Trees}
use Rattle.sqlite_keyed.specs.Lists.{sort_by}
use Rattle.sqlite.specs.State.{State}
use Rattle.sqlite.specs.Steps.{IsEmpty}
use Rattle.wk_table_rules.specs.Rows.{StoreTables, no_tables}
use Rattle.wk_table_rules.specs.Changes.{TableEdit, add_revision, set_page, set_rows, add_job, set_job, drop_job, set_version, edited, applied, fits}
use Rattle.wk_sqltables.specs.Entries.{entry, page_values, revision_values, link_values, member_values, redirect_values, job_values}
use Rattle.wk_sqltables.specs.Held.{AreKeyed, AreListed, IsVersion, HoldTables, link_cmp, member_cmp}
use Rattle.wk_sqlkeeper.specs.Decoded.{page_in, revision_in, link_in, member_in, redirect_in, job_in}
use Rattle.wk_sqltables.specs.Edits.{Keeps}
use Rattle.wk_sqlkeeper.specs.Kept.{IsInRange, StillKeeps}
use Rattle.wk_sqlkeeper.specs.Older.{IsAsBefore, IsKnown, KeepsOlder}
use Rattle.wk_sqlkeeper.proofs.Decoding.{all_fit, revision_again}
use Rattle.wk_sqlkeeper.proofs.KeptReads.{value_back}
use Rattle.wk_sqlmemory.specs.Told.{columns_of, version_in, tables_in, IsEditInRange, AreEditsInRange, IsTold, KeepsOlderTables, KeepsTables}

map_back : {X Y : Type 0} (f : X → Y) (back : Y → X) (fits : X → Type 0) → ((x : X) → fits x → back (f x) ≡ x) → (xs : List X) → AllByRecursion fits xs → map back (map f xs) ≡ xs
map_back f back fits again [] all = refl
map_back f back fits again (x ∷ xs) all = let one = again x all.0 in let more = map_back f back fits again xs all.1 in λ i. one i ∷ more i

keyed_back : {X : Type 0} (values : X → Row) (back : Row → X) (fits : X → Type 0) → ((x : X) → fits x → back (columns_of (entry (values x))) ≡ x) → (rows : List Row) (items : List X) → AreKeyed values rows items → AllByRecursion fits items
    → map (λ row. back (columns_of row)) rows ≡ items
keyed_back values back fits again rows items are all =
    ap (map (λ row. back (columns_of row))) are.rows_are ∙ map_back (λ x. entry (values x)) (λ row. back (columns_of row)) fits again items all

listed_back : {X : Type 0} (values : X → Row) (cmp : X → X → Ordering) (back : Row → X) → ((x : X) → back (values x) ≡ x) → (rows : List Row) (items : List X) → AreListed values cmp rows items → sort_by cmp (map back (map (drop 1) rows)) ≡ items
listed_back values cmp back again rows items are =
    ap (λ l. sort_by cmp (map back l)) are.stored_are.rows_are
    ∙ ap (sort_by cmp) (map_back values back (λ x. Unit {0}) (λ x fits. again x) are.stored (all_fit are.stored))
    ∙ sym are.items_are

version_back : (rows : List Row) (version : ℕ) → IsVersion rows version → version < 2 ^ 64 → version_in rows ≡ version
version_back rows version is low = ap version_in is.rows_are ∙ value_back version low

pub tables_back : (trees : Trees) (tables : StoreTables) → HoldTables trees tables → IsInRange tables → tables_in trees ≡ tables
tables_back trees tables hold range =
    let pages = keyed_back page_values page_in (λ x. Unit {0}) (λ x fits. refl) (trees 0) tables.pages hold.pages (all_fit tables.pages) in
    let revisions = keyed_back revision_values revision_in (λ x. x.rev_timestamp < 2 ^ 64) revision_again (trees 2) tables.revisions hold.revisions range.moments in
    let pagelinks = listed_back link_values link_cmp link_in (λ x. refl) (trees 3) tables.pagelinks hold.pagelinks in
    let templatelinks = listed_back link_values link_cmp link_in (λ x. refl) (trees 5) tables.templatelinks hold.templatelinks in
    let existlinks = listed_back link_values link_cmp link_in (λ x. refl) (trees 7) tables.existlinks hold.existlinks in
    let categorylinks = listed_back member_values member_cmp member_in (λ x. refl) (trees 9) tables.categorylinks hold.categorylinks in
    let redirects = keyed_back redirect_values redirect_in (λ x. Unit {0}) (λ x fits. refl) (trees 14) tables.redirects hold.redirects (all_fit tables.redirects) in
    let jobs = keyed_back job_values job_in (λ x. Unit {0}) (λ x fits. refl) (trees 11) tables.jobs hold.jobs (all_fit tables.jobs) in
    let version = version_back (trees 12) tables.version hold.version range.version in
    λ i. record {
      pages = pages i;
      revisions = revisions i;
      pagelinks = pagelinks i;
      templatelinks = templatelinks i;
      existlinks = existlinks i;
      categorylinks = categorylinks i;
      redirects = redirects i;
      jobs = jobs i;
      version = version i;
    }

-- ---- numbers of 64 bits

pub all_pushed : {X : Type 0} (P : X → Type 0) (xs : List X) (x : X) → AllByRecursion P xs → P x → AllByRecursion P (xs ++ x ∷ [])
all_pushed P [] x all one = (one, tt)
all_pushed P (y ∷ ys) x all one = (all.0, all_pushed P ys x all.1 one)

edit_in_range : (tables : StoreTables) (edit : TableEdit) → IsEditInRange edit → IsInRange tables → IsInRange (edited tables edit)
edit_in_range tables (add_revision row) low range = record { moments = all_pushed (λ revision. revision.rev_timestamp < 2 ^ 64) tables.revisions row range.moments low; version = range.version }
edit_in_range tables (set_page row) low range = record { moments = range.moments; version = range.version }
edit_in_range tables (set_rows page rows) low range = record { moments = range.moments; version = range.version }
edit_in_range tables (add_job row) low range = record { moments = range.moments; version = range.version }
edit_in_range tables (set_job row) low range = record { moments = range.moments; version = range.version }
edit_in_range tables (drop_job id) low range = record { moments = range.moments; version = range.version }
edit_in_range tables (set_version version) low range = record { moments = range.moments; version = low }

pub change_in_range : (change : List TableEdit) (tables : StoreTables) → AreEditsInRange change → IsInRange tables → IsInRange (applied tables change)
change_in_range [] tables low range = range
change_in_range (edit ∷ change) tables low range = change_in_range change (edited tables edit) low.1 (edit_in_range tables edit low.0 range)

pub none_in_range : IsInRange no_tables
none_in_range = record { moments = tt; version = omega arith }

-- ---- a keeper that keeps tables

tables_set : (a b : StoreTables) → IsProp (a ≡ b)
tables_set a b = hlevel props

pub told_is : (s : State) (k : KeepsTables s) → tables_in s.now.trees ≡ k.tables
told_is s k = tables_back s.now.trees k.tables k.keeps.tables_are k.range

pub still_kept : (old new : State) → StillKeeps old new → ∥ KeepsTables old ∥₁ → ∥ KeepsTables new ∥₁
still_kept old new still had = ∥∥₁_elim had (hlevel props) (λ k. ∣ record { tables = k.tables; keeps = still k.tables k.keeps; range = k.range } ∣₁)

pub still_told : (old new : State) → StillKeeps old new → ∥ KeepsTables old ∥₁ → tables_in new.now.trees ≡ tables_in old.now.trees
still_told old new still had = ∥∥₁_elim had (tables_set _ _) (λ k.
    let after : KeepsTables new = record { tables = k.tables; keeps = still k.tables k.keeps; range = k.range } in
    told_is new after ∙ sym (told_is old k))

pub told_read : (old : State) (loaded : StoreTables) → ((tables : StoreTables) → Keeps old tables → IsInRange tables → loaded ≡ tables) → ∥ KeepsTables old ∥₁ → loaded ≡ tables_in old.now.trees
told_read old loaded read had = ∥∥₁_elim had (tables_set _ _) (λ k. read k.tables k.keeps k.range ∙ sym (told_is old k))

module _ (old new : State) (change : List TableEdit) (low : AreEditsInRange change) (fit : fits (tables_in old.now.trees) change ≡ true)
    (makes : (tables : StoreTables) → Keeps old tables → fits tables change ≡ true → Keeps new (applied tables change)) where
  after_change : (k : KeepsTables old) → KeepsTables new
  after_change k =
      let fit_there : fits k.tables change ≡ true = sym (ap (λ tables. fits tables change) (told_is old k)) ∙ fit in
      record { tables = applied k.tables change; keeps = makes k.tables k.keeps fit_there; range = change_in_range change k.tables low k.range }

  pub change_kept : ∥ KeepsTables old ∥₁ → ∥ KeepsTables new ∥₁
  change_kept had = ∥∥₁_elim had (hlevel props) (λ k. ∣ after_change k ∣₁)

  pub change_told : ∥ KeepsTables old ∥₁ → tables_in new.now.trees ≡ applied (tables_in old.now.trees) change
  unfolding after_change
  change_told had = ∥∥₁_elim had (tables_set _ _) (λ k. told_is new (after_change k) ∙ sym (ap (λ tables. applied tables change) (told_is old k)))

-- ---- a database that is taken over

older_is_told : (old new : State) → ((tables : StoreTables) → KeepsOlder old tables → Keeps new tables) → ∥ KeepsOlderTables old ∥₁ → ∥ KeepsTables new ∥₁
older_is_told old new whole had = ∥∥₁_elim had (hlevel props) (λ k. ∣ record { tables = k.tables; keeps = whole k.tables k.keeps; range = k.range } ∣₁)

pub taken_over : (old new : State) → (IsEmpty old → Keeps new no_tables) → ((tables : StoreTables) → KeepsOlder old tables → Keeps new tables) → StillKeeps old new → IsTold old → ∥ KeepsTables new ∥₁
taken_over old new blank whole still (inl empty) = ∣ record { tables = no_tables; keeps = blank empty; range = none_in_range } ∣₁
taken_over old new blank whole still (inr (inl had)) = still_kept old new still had
taken_over old new blank whole still (inr (inr had)) = older_is_told old new whole had

pub older_told : (new : State) (tables : StoreTables) → Keeps new tables → IsInRange tables → tables_in new.now.trees ≡ tables
older_told new tables keeps range = tables_back new.now.trees tables keeps.tables_are range

-- a refusal, of which this is known wherever it is known which tables there are
pub stays_told : (old new : State) → (IsKnown old.now.schema → old.now ≡ old.committed → IsAsBefore old new) → IsTold old → ∥ IsAsBefore old new ∥₁
stays_told old new stays (inl empty) = ∣ stays (inl empty.2) empty.0.clean ∣₁
stays_told old new stays (inr (inl had)) = ∥∥₁_elim had (hlevel props) (λ k. ∣ stays (inr (inr k.keeps.schema)) k.keeps.settled ∣₁)
stays_told old new stays (inr (inr had)) = ∥∥₁_elim had (hlevel props) (λ k. ∣ stays (inr (inl k.keeps.schema)) k.keeps.settled ∣₁)

-- at an answer, what was said of either kind
pub at_either : {A E P Q X : Type 0} (r : Result A E) → OnOk r P → OnErr r Q → (P → X) → (Q → X) → X
at_either (Ok a) p q f g = f p
at_either (Err e) p q f g = g q

module _ {A E : Type 0} where
  pub read_told : (tables_of : A → StoreTables) (old : State) (r : Result A E) → IfOk r (λ a. (tables : StoreTables) → Keeps old tables → IsInRange tables → tables_of a ≡ tables) → ∥ KeepsTables old ∥₁ → IfOk r (λ a. tables_of a ≡ tables_in old.now.trees)
  read_told tables_of old (Ok a) read had = told_read old (tables_of a) read had
  read_told tables_of old (Err e) read had = tt

  pub refused_told : (old new : State) (r : Result A E) → OnErr r (StillKeeps old new) → ∥ KeepsTables old ∥₁ → OnErr r (Some (tables_in new.now.trees) ≡ Some (tables_in old.now.trees))
  refused_told old new (Ok a) stays had = tt
  refused_told old new (Err e) stays had = ap Some (still_told old new stays had)

  module _ (old new : State) (change : List TableEdit) (low : AreEditsInRange change) (fit : fits (tables_in old.now.trees) change ≡ true) where
    pub made_told : (r : Result A E) → OnOk r ((tables : StoreTables) → Keeps old tables → fits tables change ≡ true → Keeps new (applied tables change)) → ∥ KeepsTables old ∥₁
        → OnOk r (Some (tables_in new.now.trees) ≡ Some (applied (tables_in old.now.trees) change))
    made_told (Ok a) makes had = ap Some (change_told old new change low fit makes had)
    made_told (Err e) makes had = tt

    pub made_kept : (r : Result A E) → OnOk r ((tables : StoreTables) → Keeps old tables → fits tables change ≡ true → Keeps new (applied tables change)) → OnErr r (StillKeeps old new) → ∥ KeepsTables old ∥₁ → ∥ KeepsTables new ∥₁
    made_kept (Ok a) makes stays had = change_kept old new change low fit makes had
    made_kept (Err e) makes stays had = still_kept old new stays had

pub new_told : (s : State) → Keeps s no_tables → tables_in s.now.trees ≡ no_tables
new_told s keeps = tables_back s.now.trees no_tables keeps.tables_are none_in_range
