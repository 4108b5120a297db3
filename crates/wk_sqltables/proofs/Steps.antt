-- What a statement on the rows of one table of a store does.
use Rattle.std.proofs.Common.{◌≡◌, ◌⊎◌, inl, inr, ℕ, ℤ, ◌/◌, ◌^◌, nat_le, List, [], map, filter, length, false, cond, MatchBool, fold, is_lt, int_cmp, Option, None, Some, Ok, Err, Result, IsTrue, slice_get, refl, sym, ap, subst, ◌∙◌}
use Rattle.std.specs.List.Sorted.{IsPermutation}
use Rattle.sqlite_value.specs.declared.value.Value.TheVariants.{Null}
use Rattle.sqlite_value.specs.Order.{Row}
use Rattle.sqlite_trees.specs.Tree.{Trees}
use Rattle.sqlite_sql.specs.Term.{Term}
use Rattle.sqlite_schema.specs.declared.schema.Keys.TheVariants.{Enforced}
use Rattle.sqlite_schema.specs.declared.schema.Table.{Table}
use Rattle.sqlite_schema.specs.declared.command.Source.TheVariants.{Values}
use Rattle.sqlite_rules.specs.declared.error.Rowids.TheVariants.{Chosen, Above, Given}
use Rattle.sqlite_rules.specs.Calls.{ids_of}
use Rattle.sqlite_rules.specs.Edit.{Edit, edit_of, Applies}
use Rattle.sqlite.specs.Program.{overlay}
use Rattle.sqlite.specs.Command.{Command}
use Rattle.sqlite.specs.Command.TheVariants.{Delete, Insert, Update}
use Rattle.sqlite.specs.Effect.{Database, value_rows}
use Rattle.sqlite.specs.Does.{Tally, Does, AtPlace, OnRows}
use Rattle.sqlite.specs.Rows.{Written, Task, Counts, CountsIn, Gives, sequence, higher, rowids_for, count_of, stamped}
use Rattle.sqlite.specs.Listing.{understood}
use Rattle.sqlite.specs.State.{State, mode_of, ExecutesInside}
use Rattle.sqlite.proofs.Callers.{IsPlain, command_of, statement_of, runs_as, one_step}
use Rattle.wk_sqltables.specs.StoreSchema.{store_schema}
use Rattle.wk_sqltables.proofs.Picked.{picked, passes_all, shows, picks}

-- a part that gave a value did not stop on the way
pub went : {B E R : Type 0} {b : B} {Stops : E → Type 0} → ((stop : E) × Stops stop × (Ok b ≡ Err stop)) ⊎ R → R
went (inl stopped) = absurd (let e = stopped.2 in cc)
went (inr on) = on

pub same_value : {B E : Type 0} {a b : B} → ◌≡◌ {A = Result B E} (Ok a) (Ok b) → a ≡ b
same_value e = cc

-- a table that isn't counted gets no count
counts_none : (task : Task) (mid : Trees) (counter : Option Row) (top : ℤ) (out : Trees) → task.table.is_counted ≡ false → Counts task mid counter top (Ok out) → out ≡ mid
counts_none task mid counter top out uncounted h =
    same_value (subst (λ b. MatchBool (cond b (is_lt (int_cmp (count_of counter) top)) false) (CountsIn task mid counter top (sequence task.schema) (Ok out)) (Gives mid (Ok out))) uncounted h)

-- within a transaction, the statement was this one edit of the trees
pub record Steps (old new : State) (edit : Edit) : Type 0 where
  pub inside : IsTrue new.in_transaction
  pub schema : new.now.schema ≡ store_schema
  pub applies : Applies store_schema Enforced old.now.trees edit new.now.trees

-- the trees of tables aren't those of a query's own
pub not_given : (db : Trees) (tree : ℕ) → nat_le (2 ^ 31) tree ≡ false → overlay db [] tree ≡ db tree
not_given db tree low = rw low refl

module _ (at : ℕ) (table : Table) (here : slice_get store_schema.tables at ≡ Some table) (low : nat_le (2 ^ 31) table.tree ≡ false) (old new : State) (params : Row) where
  abbrev On : Command → Tally → Option Table → Type 0
  On command tally found =
      AtPlace (λ t. OnRows (record { limit = old.step_limit; keys = Enforced; schema = store_schema; table = t; params = params }) (mode_of old) None command old.now.trees) found (Ok (tally, new.now))

  module _ (sql : List ℕ) (has : old.now.schema ≡ store_schema) (plain : IsPlain (understood store_schema sql)) (count : ℕ) (h : ExecutesInside 0 sql params old new (Ok count)) where
    steps : (edit : Edit) (done next : Trees) → new.now ≡ record { schema = store_schema; trees = done } → done ≡ next → Applies store_schema Enforced old.now.trees edit next → Steps old new edit
    steps edit done next now trees step = record {
      inside = rw h.1.mode refl;
      schema = ap (λ (d : Database). d.schema) now;
      applies = subst (Applies store_schema Enforced old.now.trees edit) (sym (ap (λ (d : Database). d.trees) now ∙ trees)) step;
    }

    pub deletes : (tests project : List Term) → command_of (understood store_schema sql) ≡ Delete at (record { lets = []; body = picked table.tree tests project })
        → (found : List Row) × IsPermutation (map (shows project params) (filter (passes_all tests params) (old.now.trees table.tree))) found × Steps old new (edit_of old.now.trees table (ids_of found) Given 0 [])
    deletes tests project is =
        let command = Delete at (record { lets = []; body = picked table.tree tests project }) in
        let db = old.now.trees in
        let w = runs_as sql params old new store_schema has command is plain count h.0 in
        let text = statement_of sql (understood store_schema sql) in
        let does = subst (λ s. Does old.step_limit (mode_of old) params (record old.now { schema = s }) text None command (Ok (w.tally, new.now))) has w.changed in
        let done = went (subst (On command w.tally) here does) in
        let now = ap (λ (p : Tally × Database). p.1) (same_value (went (went done.2).2).2) in
        let found = went done.1 in
        let next = went found.2 in
        let trees : done.0.trees ≡ next.0 = ap (λ (it : Written). it.trees) (same_value next.2) in
        let edit = edit_of db table (ids_of found.0) Given 0 [] in
        let of_table = subst (λ l. IsPermutation (map (shows project params) (filter (passes_all tests params) l)) found.0) (not_given db table.tree low) (picks table.tree tests project (overlay db []) params found.0 (found.1.answer Null)) in
        (found.0, of_table, steps edit done.0.trees next.0 now trees (one_step store_schema Enforced db next.0 edit refl next.1))

    pub updates : (tests project : List Term) → command_of (understood store_schema sql) ≡ Update at (record { lets = []; body = picked table.tree tests project })
        → (found : List Row) × IsPermutation (map (shows project params) (filter (passes_all tests params) (old.now.trees table.tree))) found × Steps old new (edit_of old.now.trees table (ids_of found) Given 1 found)
    updates tests project is =
        let command = Update at (record { lets = []; body = picked table.tree tests project }) in
        let db = old.now.trees in
        let w = runs_as sql params old new store_schema has command is plain count h.0 in
        let text = statement_of sql (understood store_schema sql) in
        let does = subst (λ s. Does old.step_limit (mode_of old) params (record old.now { schema = s }) text None command (Ok (w.tally, new.now))) has w.changed in
        let done = went (subst (On command w.tally) here does) in
        let now = ap (λ (p : Tally × Database). p.1) (same_value (went (went done.2).2).2) in
        let found = went done.1 in
        let next = went found.2 in
        let trees : done.0.trees ≡ next.0 = ap (λ (it : Written). it.trees) (same_value next.2) in
        let edit = edit_of db table (ids_of found.0) Given 1 found.0 in
        let of_table = subst (λ l. IsPermutation (map (shows project params) (filter (passes_all tests params) l)) found.0) (not_given db table.tree low) (picks table.tree tests project (overlay db []) params found.0 (found.1.answer Null)) in
        (found.0, of_table, steps edit done.0.trees next.0 now trees (one_step store_schema Enforced db next.0 edit refl next.1))

    pub inserts : (terms : List Term) (width : ℕ) → table.is_counted ≡ false → command_of (understood store_schema sql) ≡ Insert at (Values terms width)
        → Steps old new (edit_of old.now.trees table [] Chosen 0 (value_rows (stamped table params) width (length terms / width) terms))
    inserts terms width uncounted is =
        let command = Insert at (Values terms width) in
        let db = old.now.trees in
        let w = runs_as sql params old new store_schema has command is plain count h.0 in
        let text = statement_of sql (understood store_schema sql) in
        let does = subst (λ s. Does old.step_limit (mode_of old) params (record old.now { schema = s }) text None command (Ok (w.tally, new.now))) has w.changed in
        let done = went (subst (On command w.tally) here does) in
        let now = ap (λ (p : Tally × Database). p.1) (same_value (went (went done.2).2).2) in
        let given = went done.1 in
        let counter = went given.2 in
        let written = went counter.2 in
        let counted = went written.2 in
        let task : Task = record { limit = old.step_limit; keys = Enforced; schema = store_schema; table = table; params = params } in
        let first = edit_of db table [] (rowids_for table (count_of counter.0)) 0 given.0 in
        let left : counted.0 ≡ written.0 = counts_none task written.0 counter.0 (fold higher (count_of counter.0) first.news) counted.0 uncounted counted.1 in
        let trees : done.0.trees ≡ written.0 = ap (λ (it : Written). it.trees) (same_value counted.2) ∙ left in
        let rowids : rowids_for table (count_of counter.0) ≡ Chosen = ap (λ b. cond b (Above (count_of counter.0)) Chosen) uncounted in
        let edit = edit_of db table [] (rowids_for table (count_of counter.0)) 0 given.0 in
        let edit_is : edit ≡ edit_of db table [] Chosen 0 (value_rows (stamped table params) width (length terms / width) terms) =
        ap (λ r. edit_of db table [] r 0 given.0) rowids ∙ ap (edit_of db table [] Chosen 0) given.1.1 in
        subst (Steps old new) edit_is (steps edit done.0.trees written.0 now trees (one_step store_schema Enforced db written.0 edit refl written.1))
