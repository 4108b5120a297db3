-- The table redirect is dropped.
use Rattle.std.proofs.Common.{◌≡◌, ◌∙◌, ℕ, List, [], codes, None, Ok, IsTrue, true, false, refl, sym, ap, subst}
use Rattle.std.proofs.Math.Logic.{∥∥₁_elim}
use Rattle.std.proofs.Props.{props}
use Rattle.sqlite_trees.specs.Tree.{Trees}
use Rattle.sqlite_trees.specs.declared.store.Store.{Ghosts}
use Rattle.sqlite_tied.specs.Compute.{everything}
use Rattle.sqlite_catalog.specs.Change.{KeepsRows, without_table}
use Rattle.sqlite.specs.Command.TheVariants.{DropTable}
use Rattle.sqlite.specs.Does.{Does, Tally}
use Rattle.sqlite.specs.Effect.{Database}
use Rattle.sqlite.specs.Held.{Held, state}
use Rattle.sqlite.specs.Listing.{understood}
use Rattle.sqlite.specs.State.{State, ExecutesInside, Shows, mode_of}
use Rattle.sqlite.proofs.Callers.{IsPlain, command_of, runs_as, statement_of}
use Rattle.wk_table_rules.specs.Rows.{StoreTables}
use Rattle.wk_sqltables.specs.Entries.{page_values, revision_values, link_values, member_values, job_values}
use Rattle.wk_sqltables.specs.Held.{AreKeyed, AreListed, Holds, IsVersion, link_cmp, member_cmp}
use Rattle.wk_sqltables.specs.StoreSchema.{store_schema}
use Rattle.wk_sqltables.proofs.Changes.{begins}
use Rattle.wk_sqltables.proofs.Steps.{same_value, went}
use Rattle.wk_sqlkeeper.specs.Making.{schema_8}
use Rattle.wk_sqlkeeper.specs.Older.{HoldOlder, HoldsOlder, KeepsOlder}
use Rattle.wk_sqlmemory.specs.Told.{KeepsOlderTables, KeepsTables}

abbrev drop_text : List ℕ
drop_text = codes "DROP TABLE redirect"

drop_is : command_of (understood store_schema drop_text) ≡ DropTable 8
unfolding understood everything
drop_is = refl

drop_plain : IsPlain (understood store_schema drop_text)
unfolding understood everything
drop_plain = (refl, refl)

left : without_table store_schema 14 ≡ schema_8
left = refl

record IsDropped (old new : State) : Type 0 where
  pub inside : IsTrue new.in_transaction
  pub schema_is : new.now.schema ≡ schema_8
  pub others : KeepsRows schema_8.tables old.now.trees new.now.trees

drops : (old new : State) (count : ℕ) → ExecutesInside 0 drop_text [] old new (Ok count) → old.now.schema ≡ store_schema → IsDropped old new
drops old new count h was =
    let w = runs_as drop_text [] old new store_schema was (DropTable 8) drop_is drop_plain count h.0 in
    let text = statement_of drop_text (understood store_schema drop_text) in
    let does = subst (λ s. Does old.step_limit (mode_of old) [] (record old.now { schema = s }) text None (DropTable 8) (Ok (w.tally, new.now))) was w.changed in
    let emptied = went does in
    let uncounted = went emptied.2 in
    let tested = went uncounted.2 in
    let done = went tested.2 in
    let rows : uncounted.0 ≡ old.now.trees = same_value uncounted.1 ∙ same_value emptied.1 in
    let ended : new.now ≡ done.0 = ap (λ (p : Tally × Database). p.1) (same_value done.2) in
    let others : KeepsRows schema_8.tables old.now.trees done.0.trees = subst (λ (db : Trees). KeepsRows schema_8.tables db done.0.trees) rows done.1.1 in
    record {
      inside = rw h.1.mode refl;
      schema_is = ap (λ (d : Database). d.schema) ended ∙ done.1.0 ∙ left;
      others = subst (λ (d : Database). KeepsRows schema_8.tables old.now.trees d.trees) (sym ended) others;
    }

dropped : (old new : State) → IsDropped old new → (tables : StoreTables) → Holds old tables → HoldsOlder new (record tables { redirects = [] })
dropped old new d tables holds =
    let h = holds.tables_are in
    let o = d.others in
    record {
      inside = d.inside;
      schema = d.schema_is;
      tables_are = record {
        pages = subst (λ r. AreKeyed page_values r tables.pages) (sym o.0) h.pages;
        revisions = subst (λ r. AreKeyed revision_values r tables.revisions) (sym o.1.0) h.revisions;
        pagelinks = subst (λ r. AreListed link_values link_cmp r tables.pagelinks) (sym o.1.1.0) h.pagelinks;
        templatelinks = subst (λ r. AreListed link_values link_cmp r tables.templatelinks) (sym o.1.1.1.0) h.templatelinks;
        existlinks = subst (λ r. AreListed link_values link_cmp r tables.existlinks) (sym o.1.1.1.1.0) h.existlinks;
        categorylinks = subst (λ r. AreListed member_values member_cmp r tables.categorylinks) (sym o.1.1.1.1.1.0) h.categorylinks;
        jobs = subst (λ r. AreKeyed job_values r tables.jobs) (sym o.1.1.1.1.1.1.0) h.jobs;
        version = subst (λ r. IsVersion r tables.version) (sym o.1.1.1.1.1.1.1.0) h.version;
        none = refl;
      };
    }

pub runs_dropped : (old new : State) (count : ℕ) → ExecutesInside 0 drop_text [] old new (Ok count) → (tables : StoreTables) → Holds old tables → HoldsOlder new (record tables { redirects = [] })
runs_dropped old new count h tables holds = dropped old new (drops old new count h holds.schema) tables holds

-- ---- the transaction

committed_older : (mid new : State) (tables : StoreTables) → HoldsOlder mid tables → Shows mid new mid.now mid.now false → KeepsOlder new tables
committed_older mid new tables holds shows = record {
  is_open = shows.is_open;
  settled = shows.now_is ∙ sym shows.committed_is;
  schema = ap (λ (d : Database). d.schema) shows.now_is ∙ holds.schema;
  tables_are = subst (λ (d : Database). HoldOlder d.trees tables) (sym shows.now_is) holds.tables_are;
}

pub older_again : {S : Type 0} (g : Ghosts S) (old : Held S) (mid new : State)
    → ((tables : StoreTables) → Holds (state g (record old { in_transaction = true })) tables → HoldsOlder mid (record tables { redirects = [] }))
    → Shows mid new mid.now mid.now false → ∥ KeepsTables (state g old) ∥₁ → ∥ KeepsOlderTables new ∥₁
older_again g old mid new drops shows had = ∥∥₁_elim had (hlevel props) (λ k. ∣ record {
  tables = record k.tables { redirects = [] };
  keeps = committed_older mid new (record k.tables { redirects = [] }) (drops k.tables (begins g old k.tables k.keeps)) shows;
  range = record { moments = k.range.moments; version = k.range.version };
} ∣₁)
