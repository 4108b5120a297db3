-- The statements on the table job.
use Rattle.std.proofs.Common.{◌≡◌, inl, inr, ℕ, suc, ℤ, pos, ◌+◌, ◌<ℤ◌, eqb, ltb, List, [], ◌∷◌, ◌++◌, filter, length, remove, slice_set, Bool, true, not, cond, None, Some, Ok, refl, sym, ap, subst, subst₂, ◌∙◌, arith}
use Rattle.std.specs.List.{AllByRecursion, list_any, position, position_or_len}
use Rattle.std.proofs.lemmas.Bool.{cases_Bool}
use Rattle.std.proofs.lemmas.Bool.Decides.{nat_tests}
use Rattle.std.proofs.lemmas.Int.{ints}
use Rattle.sqlite_value.specs.declared.value.Value.TheVariants.{Null, Int, Text}
use Rattle.sqlite_trees.specs.Tree.{put_row}
use Rattle.sqlite_sql.specs.Term.{col}
use Rattle.sqlite_rules.specs.Cast.{cast_row}
use Rattle.sqlite_rules.specs.Edit.{edited, edit_of}
use Rattle.sqlite_rules.specs.declared.error.Rowids.TheVariants.{Chosen}
use Rattle.sqlite_keyed.specs.Keyed.{IsKeyedBy}
use Rattle.sqlite_keyed.proofs.ListLemmas.{all_weaker, filter_all}
use Rattle.sqlite.specs.Effect.{value_rows}
use Rattle.sqlite.specs.Rows.{stamped}
use Rattle.sqlite.specs.State.{State, ExecutesInside}
use Rattle.wk_table_rules.specs.Rows.{JobColumns}
use Rattle.wk_table_rules.specs.Changes.{add_job, set_job, drop_job, with_job, without_job}
use Rattle.wk_sqltables.specs.StoreSchema.{job_table}
use Rattle.wk_sqltables.specs.Entries.{entry, job_values}
use Rattle.wk_sqltables.specs.Held.{AreKeyed, Makes}
use Rattle.wk_sqltables.specs.Statements.{add_job_text, set_job_text, drop_job_text}
use Rattle.wk_sqltables.proofs.Picked.{passes_all, shows}
use Rattle.wk_sqltables.proofs.Lists.{position_is, position_none, with_first, first_is}
use Rattle.wk_sqltables.proofs.Keyed.{numbers_rise, dropped, added, updated}
use Rattle.wk_sqltables.proofs.Casts.{cast_null, cast_int, equal_ints, one_test}
use Rattle.wk_sqltables.proofs.Steps.{deletes, inserts, updates}
use Rattle.wk_sqltables.proofs.Frames.{jobs_only}
use Rattle.wk_sqltables.proofs.Meanings.{by_job, job_terms, job_changes, add_job_is, add_job_plain, set_job_is, set_job_plain, drop_job_is, drop_job_plain}

abbrev number : JobColumns → ℤ
number job = pos job.job_id

-- ---- the list without a job

at_some : (rows : List JobColumns) (id place : ℕ) → position (λ (row : JobColumns). eqb row.job_id id) rows ≡ Some place → without_job rows id ≡ remove rows place
at_some rows id place at = rw (at, without_job) refl

at_none : (rows : List JobColumns) (id : ℕ) → position (λ (row : JobColumns). eqb row.job_id id) rows ≡ None → without_job rows id ≡ rows
at_none rows id none = rw (none, without_job) refl

removed-more : (j : JobColumns) (js : List JobColumns) (n : ℕ) → remove (j ∷ js) (1 + n) ≡ j ∷ remove js n
removed-more j js n = subst (λ k. remove (j ∷ js) k ≡ j ∷ remove js n) one_more refl
  where
    one_more : suc n ≡ 1 + n
    one_more = omega arith

without_cons : (j : JobColumns) (js : List JobColumns) (id : ℕ) → without_job (j ∷ js) id ≡ cond (eqb j.job_id id) js (j ∷ without_job js id)
without_cons j js id =
    let p : JobColumns → Bool = λ row. eqb row.job_id id in
    let n = position_or_len p js in
    elim (cases_Bool (eqb j.job_id id)) [
      | inl is ↦ at_some (j ∷ js) id 0 (position_is p (j ∷ js) 0 (rw is refl) (grind (arith, nat_tests))) ∙ sym (ap (λ b. cond b js (j ∷ without_job js id)) is)
      | inr other ↦
          let deeper : position_or_len p (j ∷ js) ≡ 1 + n = rw other refl in
          let removed : remove (j ∷ js) (1 + n) ≡ j ∷ remove js n = removed-more j js n in
          let right = sym (ap (λ b. cond b js (j ∷ without_job js id)) other) in
          elim (cases_Bool (ltb n (length js))) [
            | inl within ↦ at_some (j ∷ js) id (1 + n) (position_is p (j ∷ js) (1 + n) deeper (grind (arith, nat_tests))) ∙ removed ∙ ap (λ l. j ∷ l) (sym (at_some js id n (position_is p js n refl within))) ∙ right
            | inr past ↦ at_none (j ∷ js) id (position_none p (j ∷ js) (1 + n) deeper (grind (arith, nat_tests))) ∙ ap (λ l. j ∷ l) (sym (at_none js id (position_none p js n refl past))) ∙ right
          ]
    ]

eqb-same : (a b : ℕ) → eqb a b ≡ true → a ≡ b
eqb-same a b h = grind (arith, nat_tests)

apart_is : (id : ℕ) (k : JobColumns) → pos id <ℤ number k → not (eqb k.job_id id) ≡ true
apart_is id k h = grind (arith, ints, nat_tests)

-- where the numbers rise, none but the first has its number
without_is : (js : List JobColumns) (id : ℕ) → IsKeyedBy number js → without_job js id ≡ filter (λ j. not (eqb j.job_id id)) js
without_is [] id rise = refl
without_is (j ∷ js) id rise = without_cons j js id ∙ elim (cases_Bool (eqb j.job_id id)) [
  | inl is ↦
      let same : j.job_id ≡ id = eqb-same j.job_id id is in
      let above = subst (λ n. AllByRecursion (λ k. pos n <ℤ number k) js) same rise.0 in
      rw is (sym (filter_all (λ k. not (eqb k.job_id id)) js (all_weaker (λ k. pos id <ℤ number k) (λ k. not (eqb k.job_id id) ≡ true) (λ k h. apart_is id k h) js above)))
  | inr other ↦ rw (other, without_is js id rise.1) refl
]

-- ---- the list with a job changed

set_some : (rows : List JobColumns) (new : JobColumns) (place : ℕ) → position (λ (row : JobColumns). eqb row.job_id new.job_id) rows ≡ Some place → with_job rows new ≡ slice_set rows place new
set_some rows new place at = rw (at, with_job) refl

with_is : (rows : List JobColumns) (new : JobColumns) → list_any (λ row. eqb row.job_id new.job_id) rows ≡ true → with_job rows new ≡ with_first (λ row. eqb row.job_id new.job_id) new rows
with_is rows new any =
    let p : JobColumns → Bool = λ row. eqb row.job_id new.job_id in
    let first = first_is p new rows any in set_some rows new (position_or_len p rows) (position_is p rows (position_or_len p rows) refl first.0) ∙ first.1

-- ---- the statements

module _ (old new : State) (count : ℕ) where
  pub drops_job : (id : ℕ) → ExecutesInside 0 drop_job_text (Int (pos id) ∷ []) old new (Ok count) → Makes old new (drop_job id)
  drops_job id h tables holds fit =
      let params = Int (pos id) ∷ [] in
      let rows = old.now.trees 11 in
      let jobs = tables.jobs in
      let it = deletes 6 job_table refl refl old new params drop_job_text holds.schema drop_job_plain count h by_job (col 1 0 ∷ []) drop_job_is in
      let left = dropped job_values (λ j. j.job_id) (λ j. refl) (passes_all by_job params) (λ j. eqb j.job_id id) (λ j. one_test _ _ (equal_ints j.job_id id)) rows jobs holds.tables_are.jobs it.0 it.1 in
      let is = subst₂ (AreKeyed job_values) (sym it.2.applies.rows) (sym (without_is jobs id (numbers_rise job_values (λ j. j.job_id) (λ j. refl) rows jobs holds.tables_are.jobs))) left in
      record { inside = it.2.inside; schema = it.2.schema; tables_are = jobs_only old.now.trees new.now.trees tables holds.tables_are it.2.applies.tables (without_job jobs id) is }

  pub adds_job : (job : JobColumns) → ExecutesInside 0 add_job_text (job_values job) old new (Ok count) → Makes old new (add_job job)
  adds_job job h tables holds fit =
      let db = old.now.trees in
      let it = inserts 6 job_table refl refl old new (job_values job) add_job_text holds.schema add_job_plain count h job_terms 6 refl add_job_is in
      let put : edited db (edit_of db job_table [] Chosen 0 (value_rows (stamped job_table (job_values job)) 6 1 job_terms)) ≡ put_row (entry (job_values job)) (db 11) =
      rw (cast_int (pos job.job_id), cast_int job.job_title.ns, cast_null) refl in
      let more = added job_values (λ j. j.job_id) (λ j. refl) job (db 11) tables.jobs holds.tables_are.jobs fit in
      let is = subst (λ r. AreKeyed job_values r (tables.jobs ++ job ∷ [])) (sym (it.applies.rows ∙ put)) more in
      record { inside = it.inside; schema = it.schema; tables_are = jobs_only db new.now.trees tables holds.tables_are it.applies.tables (tables.jobs ++ job ∷ []) is }

  pub sets_job : (job : JobColumns) → ExecutesInside 0 set_job_text (job_values job) old new (Ok count) → Makes old new (set_job job)
  sets_job job h tables holds fit =
      let params = job_values job in
      let rows = old.now.trees 11 in
      let it = updates 6 job_table refl refl old new params set_job_text holds.schema set_job_plain count h by_job job_changes set_job_is in
      let stays : cast_row job_table (entry (job_values job)) ≡ entry (job_values job) = rw (cast_int (pos job.job_id), cast_int job.job_title.ns, cast_null) refl in
      let done = updated job_values (λ j. j.job_id) (λ j. refl) job_table job stays (passes_all by_job params) (λ j. one_test _ _ (equal_ints j.job_id job.job_id))
      (shows job_changes params) (λ j e. ap (λ n. Int (pos n) ∷ Int (pos n) ∷ Null ∷ Text job.job_cmd ∷ Int job.job_title.ns ∷ Text job.job_title.key ∷ Text job.job_params ∷ []) e)
      rows tables.jobs holds.tables_are.jobs fit it.0 it.1 in
      let is = subst₂ (AreKeyed job_values) (sym it.2.applies.rows) (sym (with_is tables.jobs job fit)) done in
      record { inside = it.2.inside; schema = it.2.schema; tables_are = jobs_only old.now.trees new.now.trees tables holds.tables_are it.2.applies.tables (with_job tables.jobs job) is }
