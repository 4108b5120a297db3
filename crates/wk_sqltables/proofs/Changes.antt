-- The edits of a change, one after the other, and the transaction that they are made in.
use Rattle.std.proofs.Common.{◌≡◌, ◌+◌, ◌<◌, ◌≤◌, ℕ, true, false, map, List, [], ◌∷◌, ◌++◌, take, length, get_or, IsTrue, OnErr, Result, Ok, Err, inl, inr, true≢false, refl, sym, ap, subst, ◌∙◌}
use Rattle.std.specs.Result.{IfErr}
use Rattle.std.proofs.lemmas.Bool.{and_parts}
use Rattle.std.proofs.lemmas.List.{take_more, take_all}
use Rattle.sqlite_trees.specs.declared.store.Store.{Ghosts}
use Rattle.sqlite.specs.declared.error.Error.{Error}
use Rattle.sqlite.specs.Effect.{Database}
use Rattle.sqlite.specs.State.{State, KeepsCommit, IsRolledBack, Shows}
use Rattle.sqlite.specs.Steps.{FailsToCommit}
use Rattle.sqlite.specs.Held.{Held, state}
use Rattle.wk_table_rules.specs.Rows.{StoreTables}
use Rattle.wk_table_rules.specs.Changes.{TableEdit, applied, edited, edit_fits, fits}
use Rattle.wk_sqltables.specs.Held.{Holds, HoldTables, Makes}
use Rattle.wk_sqltables.specs.Edits.{IsOrdered, AreOrdered, MakesAll, Keeps}
use Rattle.wk_sqltables.proofs.Stored.{map_append}

fits_push : (tables : StoreTables) (done : List TableEdit) (edit : TableEdit) → fits tables (done ++ edit ∷ []) ≡ true → (fits tables done ≡ true) × (edit_fits (applied tables done) edit ≡ true)
fits_push tables [] edit h = (refl, (and_parts (edit_fits tables edit) true h).0)
fits_push tables (e ∷ done) edit h =
    let parts = and_parts (edit_fits tables e) (fits (edited tables e) (done ++ edit ∷ [])) h in
    let later = fits_push (edited tables e) done edit parts.1 in
    (rw (parts.0, later.0) refl, later.1)

applied_push : (tables : StoreTables) (done : List TableEdit) (edit : TableEdit) → applied tables (done ++ edit ∷ []) ≡ edited (applied tables done) edit
applied_push tables [] edit = refl
applied_push tables (e ∷ done) edit = applied_push (edited tables e) done edit

ordered_push : (done : List TableEdit) (edit : TableEdit) → AreOrdered (done ++ edit ∷ []) → AreOrdered done × IsOrdered edit
ordered_push [] edit h = (tt, h.0)
ordered_push (e ∷ done) edit h = let later = ordered_push done edit h.1 in ((h.0, later.0), later.1)

pub makes_push : (old mid new : State) (done : List TableEdit) (edit : TableEdit) → MakesAll old mid done → (IsOrdered edit → Makes mid new edit) → MakesAll old new (done ++ edit ∷ [])
makes_push old mid new done edit before makes ordered tables holds fit =
    let parts = ordered_push done edit ordered in
    let both = fits_push tables done edit fit in
    subst (Holds new) (sym (applied_push tables done edit)) (makes parts.1 (applied tables done) (before parts.0 tables holds both.0) both.1)

-- ---- a loop over edits

module _ {Y : Type 0} (edit_of : Y → TableEdit) where
  take_none : (ys : List Y) → take 0 ys ≡ []
  take_none [] = refl
  take_none (y ∷ ys) = refl

  pub makes_first : (s : State) (ys : List Y) → MakesAll s s (map edit_of (take 0 ys))
  makes_first s ys = subst (λ l. MakesAll s s (map edit_of l)) (sym (take_none ys)) (λ ordered tables holds fit. holds)

  pub makes_more : (old mid new : State) (ys : List Y) (i : ℕ) (y : Y) → i < length ys → y ≡ get_or ys i y → MakesAll old mid (map edit_of (take i ys)) → (IsOrdered (edit_of y) → Makes mid new (edit_of y))
      → MakesAll old new (map edit_of (take (i + 1) ys))
  makes_more old mid new ys i y low is before makes =
      let done = take i ys in
      let more : take (i + 1) ys ≡ done ++ y ∷ [] = take_more ys i y low ∙ ap (λ z. done ++ z ∷ []) (sym is) in
      let both : map edit_of (take (i + 1) ys) ≡ map edit_of done ++ edit_of y ∷ [] = ap (map edit_of) more ∙ map_append edit_of done (y ∷ []) in
      subst (MakesAll old new) (sym both) (makes_push old mid new (map edit_of done) (edit_of y) before makes)

  pub makes_all : (old new : State) (ys : List Y) (i : ℕ) → length ys ≤ i → MakesAll old new (map edit_of (take i ys)) → MakesAll old new (map edit_of ys)
  makes_all old new ys i high h = subst (λ l. MakesAll old new (map edit_of l)) (take_all i ys high) h

-- ---- the transaction

-- it shows what it showed before, where it shows the last commit
same_again : (old new : State) (tables : StoreTables) → Keeps old tables → IsTrue new.is_open → new.now ≡ old.committed → new.committed ≡ old.committed → Keeps new tables
same_again old new tables keeps is_open now committed =
    let back : new.now ≡ old.now = now ∙ sym keeps.settled in
    record {
      is_open = is_open;
      settled = now ∙ sym committed;
      schema = ap (λ (d : Database). d.schema) back ∙ keeps.schema;
      tables_are = subst (λ (d : Database). HoldTables d.trees tables) (sym back) keeps.tables_are;
    }

pub undone : (old mid new : State) (tables : StoreTables) → Keeps old tables → KeepsCommit old mid → IsRolledBack mid new → IsTrue new.is_open → Keeps new tables
undone old mid new tables keeps kept back is_open =
    let was = kept.committed (back.was_open is_open) in
    same_again old new tables keeps is_open ((back.undone is_open).0 ∙ was) ((back.undone is_open).1 ∙ was)

pub begins : {S : Type 0} (g : Ghosts S) (old : Held S) (tables : StoreTables) → Keeps (state g old) tables → Holds (state g (record old { in_transaction = true })) tables
begins g old tables keeps = record { inside = refl; schema = keeps.schema; tables_are = keeps.tables_are }

pub committed : (mid new : State) (tables : StoreTables) → Holds mid tables → Shows mid new mid.now mid.now false → Keeps new tables
committed mid new tables holds shows = record {
  is_open = shows.is_open;
  settled = shows.now_is ∙ sym shows.committed_is;
  schema = ap (λ (d : Database). d.schema) shows.now_is ∙ holds.schema;
  tables_are = subst (λ (d : Database). HoldTables d.trees tables) (sym shows.now_is) holds.tables_are;
}

pub commit_refused : {A : Type 0} (old mid new : State) (tables : StoreTables) (r : Result A Error) → Keeps old tables → KeepsCommit old mid → IsTrue mid.in_transaction → IfErr r (FailsToCommit mid new) → IsTrue new.is_open → OnErr r (Keeps new tables)
commit_refused old mid new tables (Ok a) keeps kept inside fails is_open = tt
commit_refused old mid new tables (Err e) keeps kept inside (inl fails) is_open = undone old mid new tables keeps kept fails.3 is_open
commit_refused old mid new tables (Err e) keeps kept inside (inr late) is_open = absurd (true≢false (sym inside ∙ late.1))

pub on_err : {A E P : Type 0} (r : Result A E) → P → OnErr r P
on_err (Ok a) p = tt
on_err (Err e) p = p

pub each_on_err : {A E X : Type 0} (P Q : X → Type 0) (r : Result A E) → ((x : X) → P x → OnErr r (Q x)) → OnErr r ((x : X) → P x → Q x)
each_on_err P Q (Ok a) f = tt
each_on_err P Q (Err e) f = f
