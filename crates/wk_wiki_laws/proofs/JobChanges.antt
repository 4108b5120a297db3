-- What the edits of jobs make of the job table.
use Rattle.std.proofs.Common.{◌≡◌, ℕ, ◌≤◌, ◌<◌, true, eqb, ltb, not, List, [], ◌∷◌, ◌++◌, map, set, Some, None, refl, sym, ap, ◌∙◌, inl, inr, subst, arith}
use Rattle.std.specs.Prelude.{filter, position, nat_eq}
use Rattle.std.specs.List.{AllByRecursion, IsDistinct, list_all, list_any, position_or_len, remove}
use Rattle.std.proofs.lemmas.Bool.{cases_Bool, and_parts, and_from, eqb-true}
use Rattle.std.proofs.lemmas.List.{map-append, append_assoc}
use Rattle.std.proofs.lemmas.List.Elements.{recursion_from_All}
use Rattle.std.proofs.lemmas.List.Sums.{fold-append}
use Rattle.wk_text_rules.specs.Titles.{PageTitle}
use Rattle.wk_table_rules.specs.Rows.{JobColumns, StoreTables}
use Rattle.wk_table_rules.specs.Changes.{TableEdit, add_job, set_job, drop_job, applied, edited, edit_fits, fits, with_job, without_job}
use Rattle.wk_table_rules.specs.JobTable.{refresh_row}
use Rattle.wk_wiki_rules.specs.Jobs.{RefreshEntry, FanEntry, JobLists, IsNumbered, numbers_of, has_refresh, refresh_queued}
use Rattle.wk_wiki_rules.specs.Steps.{all_queued, by_number, rows_of_jobs}
use Rattle.wk_wiki_rules.proofs.Lists.{map-map}
use Rattle.wk_wiki_rules.proofs.JobLemmas.{IsNumbered-queued}
use Rattle.wk_table_laws.proofs.Order.{by_number-map}
use Rattle.wk_wiki_rules.specs.TableChanges.{row_of_fan, refresh_edits, refreshes_edits}
use Rattle.wk_wiki_laws.specs.Makes.{Makes}
use Rattle.wk_wiki_laws.proofs.JobOrder.{each-weaker, Apart, Apart-by_number, by_number-greatest, all-below, each-by_number, any-by_number, by_number-filter, replaced, found-within, set-replaces, remove-filters}

-- ---- changes one after the other

applied-append : (tables : StoreTables) (xs ys : List TableEdit) → applied tables (xs ++ ys) ≡ applied (applied tables xs) ys
applied-append tables xs ys = fold-append edited tables xs ys

fits-append : (tables : StoreTables) (xs ys : List TableEdit) → fits tables xs ≡ true → fits (applied tables xs) ys ≡ true → fits tables (xs ++ ys) ≡ true
fits-append tables [] ys first second = second
fits-append tables (edit ∷ xs) ys first second =
    let parts = and_parts (edit_fits tables edit) (fits (edited tables edit) xs) first in
    and_from (edit_fits tables edit) (fits (edited tables edit) (xs ++ ys)) parts.0 (fits-append (edited tables edit) xs ys parts.1 second)

pub then-makes : (tables middle after : StoreTables) (xs ys : List TableEdit) → Makes tables xs middle → Makes middle ys after → Makes tables (xs ++ ys) after
then-makes tables middle after xs ys first second = record {
  fitting = fits-append tables xs ys first.fitting (subst (λ t. fits t ys ≡ true) (sym first.result) second.fitting);
  result = applied-append tables xs ys ∙ (ap (λ t. applied t ys) first.result ∙ second.result);
}

pub nothing-makes : (tables : StoreTables) → Makes tables [] tables
nothing-makes tables = record { fitting = refl; result = refl }

pub one-makes : (tables : StoreTables) (edit : TableEdit) → edit_fits tables edit ≡ true → Makes tables (edit ∷ []) (edited tables edit)
one-makes tables edit fit = record { fitting = and_from (edit_fits tables edit) true fit refl; result = refl }

-- ---- the rows of the jobs

abbrev id_of : JobColumns → ℕ
id_of row = row.job_id

module _ (title_of : ℕ → PageTitle) where
  abbrev pub row_of : RefreshEntry → JobColumns
  row_of job = refresh_row job.number (title_of job.page)

  -- the rows of the jobs, in the order of the lists
  abbrev pub rows_in : JobLists → List JobColumns
  rows_in lists = map row_of lists.refreshes ++ map row_of_fan lists.fans

  pub ids-in : (lists : JobLists) → map id_of (rows_in lists) ≡ numbers_of lists
  ids-in lists =
      map-append id_of (map row_of lists.refreshes) (map row_of_fan lists.fans)
      ∙ (ap (λ ns. ns ++ map id_of (map row_of_fan lists.fans)) (map-map id_of row_of (λ (job : RefreshEntry). job.number) (λ job. refl) lists.refreshes)
      ∙ ap (λ ns. map (λ (job : RefreshEntry). job.number) lists.refreshes ++ ns) (map-map id_of row_of_fan (λ (job : FanEntry). job.number) (λ job. refl) lists.fans))

  below-in : (lists : JobLists) → IsNumbered lists → AllByRecursion (λ row. id_of row < lists.next) (rows_in lists)
  below-in lists numbered =
      each-weaker' (rows_in lists) (subst (AllByRecursion (λ n. (1 ≤ n) × (n < lists.next))) (sym (ids-in lists)) (recursion_from_All (λ n. (1 ≤ n) × (n < lists.next)) (numbers_of lists) numbered.bounded))
    where
      each-weaker' : (rows : List JobColumns) → AllByRecursion (λ n. (1 ≤ n) × (n < lists.next)) (map id_of rows) → AllByRecursion (λ row. id_of row < lists.next) rows
      each-weaker' [] all = tt
      each-weaker' (row ∷ rows) all = (all.0.1, each-weaker' rows all.1)

  apart-in : (lists : JobLists) → IsNumbered lists → Apart id_of (rows_of_jobs title_of lists)
  apart-in lists numbered = Apart-by_number id_of (rows_in lists) (subst (IsDistinct nat_eq) (sym (ids-in lists)) numbered.own)

  -- the tables have the rows of these jobs
  abbrev pub Holds : StoreTables → JobLists → Type 0
  Holds tables lists = tables.jobs ≡ rows_of_jobs title_of lists

  -- ---- a job is added

  pub add-makes : (tables : StoreTables) (lists : JobLists) (front : List JobColumns) (new : JobColumns) (back : List JobColumns) → Holds tables lists → IsNumbered lists → front ++ back ≡ rows_in lists → new.job_id ≡ lists.next
      → Makes tables (add_job new ∷ []) (record tables { jobs = by_number id_of (front ++ new ∷ back) })
  add-makes tables lists front new back holds numbered parts id =
      let below = each-weaker (λ row. id_of row < lists.next) (λ row. id_of row < new.job_id) (λ row under. omega (arith, under, id)) (front ++ back) (subst (AllByRecursion (λ row. id_of row < lists.next)) (sym parts) (below-in lists numbered)) in
      let old : tables.jobs ≡ by_number id_of (front ++ back) = holds ∙ ap (by_number id_of) (sym parts) in
      let fit : list_all (λ row. ltb row.job_id new.job_id) tables.jobs ≡ true =
      rw old (all-below id_of new.job_id (by_number id_of (front ++ back)) (each-by_number id_of (λ row. id_of row < new.job_id) (front ++ back) below)) in
      let last : tables.jobs ++ new ∷ [] ≡ by_number id_of (front ++ new ∷ back) = ap (λ rows. rows ++ new ∷ []) old ∙ sym (by_number-greatest id_of front new back below) in
      record {
        fitting = and_from (list_all (λ row. ltb row.job_id new.job_id) tables.jobs) true fit refl;
        result = ap (λ (rows : List JobColumns). record tables { jobs = rows }) last;
      }

  pub same-tables : (tables : StoreTables) (lists : JobLists) → Holds tables lists → record tables { jobs = rows_of_jobs title_of lists } ≡ tables
  same-tables tables lists holds = ap (λ (rows : List JobColumns). record tables { jobs = rows }) (sym holds)

  pub queued-makes : (tables : StoreTables) (lists : JobLists) (page : ℕ) → Holds tables lists → IsNumbered lists
      → Makes tables (refresh_edits lists page (title_of page)) (record tables { jobs = rows_of_jobs title_of (refresh_queued lists page) })
  queued-makes tables lists page holds numbered = elim (cases_Bool (has_refresh lists page)) [
    | inl there ↦ rw there (subst (Makes tables []) (sym (same-tables tables lists holds)) (nothing-makes tables))
    | inr none ↦
        let new = refresh_row lists.next (title_of page) in
        let made = add-makes tables lists (map row_of lists.refreshes) new (map row_of_fan lists.fans) holds numbered refl refl in
        let same : map row_of lists.refreshes ++ new ∷ map row_of_fan lists.fans ≡ map row_of (lists.refreshes ++ record { number = lists.next; page = page; ticket = None } ∷ []) ++ map row_of_fan lists.fans =
        sym (append_assoc (map row_of lists.refreshes) (new ∷ []) (map row_of_fan lists.fans))
        ∙ ap (λ rows. rows ++ map row_of_fan lists.fans) (sym (map-append row_of lists.refreshes (record { number = lists.next; page = page; ticket = None } ∷ []))) in
        rw none (subst (λ rows. Makes tables (add_job new ∷ []) (record tables { jobs = by_number id_of rows })) same made)
  ]

  pub all_queued-makes : (tables : StoreTables) (lists : JobLists) (pages : List ℕ) → Holds tables lists → IsNumbered lists
      → Makes tables (refreshes_edits title_of lists pages) (record tables { jobs = rows_of_jobs title_of (all_queued lists pages) })
  all_queued-makes tables lists [] holds numbered = subst (Makes tables []) (sym (same-tables tables lists holds)) (nothing-makes tables)
  all_queued-makes tables lists (page ∷ pages) holds numbered =
      let first = record tables { jobs = rows_of_jobs title_of (refresh_queued lists page) } in
      then-makes tables first (record tables { jobs = rows_of_jobs title_of (all_queued (refresh_queued lists page) pages) })
      (refresh_edits lists page (title_of page)) (refreshes_edits title_of (refresh_queued lists page) pages)
      (queued-makes tables lists page holds numbered)
      (all_queued-makes first (refresh_queued lists page) pages refl (IsNumbered-queued lists page numbered))

  -- ---- a job is changed, or taken away

  with_job-at : (rows : List JobColumns) (new : JobColumns) (place : ℕ) → position (λ row. eqb row.job_id new.job_id) rows ≡ Some place → with_job rows new ≡ set rows place new
  with_job-at rows new place at = rw (at, with_job) refl

  without_job-at : (rows : List JobColumns) (id place : ℕ) → position (λ row. eqb row.job_id id) rows ≡ Some place → without_job rows id ≡ remove rows place
  without_job-at rows id place at = rw (at, without_job) refl

  -- a row takes the place of the one with its number
  pub set-makes : (tables : StoreTables) (lists : JobLists) (new : JobColumns) → Holds tables lists → IsNumbered lists → list_any (λ row. eqb row.job_id new.job_id) (rows_in lists) ≡ true
      → Makes tables (set_job new ∷ []) (record tables { jobs = by_number id_of (map (replaced id_of new) (rows_in lists)) })
  set-makes tables lists new holds numbered there =
      let rows = rows_of_jobs title_of lists in
      let p = λ (row : JobColumns). eqb row.job_id new.job_id in
      let stands : list_any (λ (row : JobColumns). eqb row.job_id new.job_id) rows ≡ true = any-by_number id_of (λ (row : JobColumns). eqb row.job_id new.job_id) (rows_in lists) ∙ there in
      let within = found-within id_of (λ (row : JobColumns). eqb row.job_id new.job_id) rows stands in
      let place = position_or_len (λ (row : JobColumns). eqb row.job_id new.job_id) rows in
      let at : position (λ (row : JobColumns). eqb row.job_id new.job_id) rows ≡ Some (position_or_len (λ (row : JobColumns). eqb row.job_id new.job_id) rows) = rw within refl in
      let set_is : with_job rows new ≡ by_number id_of (map (replaced id_of new) (rows_in lists)) =
      with_job-at rows new place at
      ∙ (set-replaces id_of new rows (apart-in lists numbered) stands
      ∙ sym (by_number-map (replaced id_of new) id_of id_of (same-id new) (rows_in lists))) in
      record {
        fitting = and_from (list_any (λ (row : JobColumns). eqb row.job_id new.job_id) tables.jobs) true (rw holds stands) refl;
        result = ap (λ (js : List JobColumns). record tables { jobs = js }) (ap (λ js. with_job js new) holds ∙ set_is);
      }
    where
      same-id : (new row : JobColumns) → id_of (replaced id_of new row) ≡ id_of row
      same-id new row = elim (cases_Bool (eqb row.job_id new.job_id)) [
        | inl same ↦ rw same (sym (eqb-true row.job_id new.job_id same))
        | inr other ↦ rw other refl
      ]

  -- the row with a number goes
  pub drop-makes : (tables : StoreTables) (lists : JobLists) (id : ℕ) → Holds tables lists → IsNumbered lists → list_any (λ row. eqb row.job_id id) (rows_in lists) ≡ true
      → Makes tables (drop_job id ∷ []) (record tables { jobs = by_number id_of (filter (λ row. not (eqb row.job_id id)) (rows_in lists)) })
  drop-makes tables lists id holds numbered there =
      let rows = rows_of_jobs title_of lists in
      let stands : list_any (λ (row : JobColumns). eqb row.job_id id) rows ≡ true = any-by_number id_of (λ (row : JobColumns). eqb row.job_id id) (rows_in lists) ∙ there in
      let within = found-within id_of (λ (row : JobColumns). eqb row.job_id id) rows stands in
      let place = position_or_len (λ (row : JobColumns). eqb row.job_id id) rows in
      let at : position (λ (row : JobColumns). eqb row.job_id id) rows ≡ Some (position_or_len (λ (row : JobColumns). eqb row.job_id id) rows) = rw within refl in
      let gone : without_job rows id ≡ by_number id_of (filter (λ (row : JobColumns). not (eqb row.job_id id)) (rows_in lists)) =
      without_job-at rows id place at
      ∙ (remove-filters id_of id rows (apart-in lists numbered) stands
      ∙ sym (by_number-filter id_of (λ (row : JobColumns). not (eqb row.job_id id)) (rows_in lists))) in
      record {
        fitting = and_from (list_any (λ (row : JobColumns). eqb row.job_id id) tables.jobs) true (rw holds stands) refl;
        result = ap (λ (js : List JobColumns). record tables { jobs = js }) (ap (λ js. without_job js id) holds ∙ gone);
      }
