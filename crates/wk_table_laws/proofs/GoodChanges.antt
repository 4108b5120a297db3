-- Changes that bring what the rules ask give good tables, and fit.
use Rattle.std.proofs.Common.{◌≡◌, ℕ, zero, suc, ◌+◌, ◌<◌, ◌≤◌, Bool, true, cond, eqb, ltb, leb, not, ◌&&◌, ◌||◌, List, [], ◌∷◌, ◌++◌, length, take, Some, None, refl, sym, ap, subst, arith}
use Rattle.std.specs.Prelude.{bytes_eq, slice_get}
use Rattle.std.specs.List.{AllByRecursion, list_all}
use Rattle.std.proofs.lemmas.Bool.{and_parts, and_from, or_left, or_right, lt-ltb, eqb-true}
use Rattle.std.proofs.lemmas.List.{append-nil, append_assoc, length-append}
use Rattle.wk_table_rules.specs.JobTable.{refresh_cmd}
use Rattle.wk_table_rules.specs.Rows.{StoreTables, PageColumns, RevisionColumns, JobColumns, no_tables}
use Rattle.wk_table_rules.specs.Changes.{TableEdit, add_revision, set_page, add_job, applied, edit_fits, fits, has_page}
use Rattle.wk_table_rules.specs.GoodStore.{IsGood, first_broken, is_good_revision, is_good_number, is_good_refresh, is_good_fan, is_good_job, texts_len, job_bound, has_good_id}
use Rattle.wk_page_rules.specs.Verdict.{max_text, max_pages, max_texts}
use Rattle.wk_table_laws.specs.EachGood.{GoodAfter, EachGood, KeepsRules}
use Rattle.wk_table_laws.specs.Premises.{FitChange, nothing, saves_page, adds_page, sets_rows, adds_job, sets_job, drops_job, raises_version, FitRevision, IsStanding, IsNext}
use Rattle.wk_table_laws.proofs.FirstBad.{KeepsRules-from_good, IsGood-from_rules}
use Rattle.wk_table_laws.proofs.Pairs.{each-weaker}
use Rattle.wk_table_laws.proofs.Links.{KeepsRules-set_rows}
use Rattle.wk_table_laws.proofs.JobRows.{KeepsRules-add_job, KeepsRules-set_job, KeepsRules-drop_job, KeepsRules-set_version}
use Rattle.wk_table_laws.proofs.SavedRows.{ids-within}
use Rattle.wk_table_laws.proofs.SavedPages.{KeepsRules-next, KeepsRules-standing, find-passes}

pub KeepsRules-applied : {tables : StoreTables} {change : List TableEdit} → KeepsRules tables → FitChange tables change → KeepsRules (applied tables change)
KeepsRules-applied keeps nothing = keeps
KeepsRules-applied keeps (saves_page fit standing later) = KeepsRules-applied (KeepsRules-standing _ _ _ _ fit standing keeps) later
KeepsRules-applied keeps (adds_page fit next later) = KeepsRules-applied (KeepsRules-next _ _ _ fit next keeps) later
KeepsRules-applied keeps (sets_rows fit later) = KeepsRules-applied (KeepsRules-set_rows _ _ _ fit keeps) later
KeepsRules-applied keeps (adds_job good later) = KeepsRules-applied (KeepsRules-add_job _ keeps _ good) later
KeepsRules-applied keeps (sets_job fit later) = KeepsRules-applied (KeepsRules-set_job _ keeps _ _ fit) later
KeepsRules-applied keeps (drops_job there later) = KeepsRules-applied (KeepsRules-drop_job _ keeps _) later
KeepsRules-applied keeps (raises_version later) = KeepsRules-applied (KeepsRules-set_version _ keeps) later

pub IsGood-applied : (tables : StoreTables) (change : List TableEdit) → IsGood tables → FitChange tables change → IsGood (applied tables change)
IsGood-applied tables change good fit = IsGood-from_rules (applied tables change) (KeepsRules-applied (KeepsRules-from_good tables good) fit)

-- ---- such a change fits

number-of : (tables : StoreTables) (before : List RevisionColumns) (row : RevisionColumns) → is_good_revision tables before row ≡ true → row.rev_id ≡ length before + 1
number-of tables before row good =
    eqb-true row.rev_id (length before + 1)
    (first-of (eqb row.rev_id (length before + 1)) (has_page tables row.rev_page) (not row.rev_gone || eqb (length row.rev_text) 0)
    (eqb row.rev_len (length row.rev_text) && leb row.rev_len max_text) (leb (texts_len (before ++ row ∷ [])) max_texts) good)
  where
    first-of : (a b c d e : Bool) → ((((a && b) && c) && d) && e) ≡ true → a ≡ true
    first-of a b c d e all = (and_parts a b (and_parts (a && b) c (and_parts ((a && b) && c) d (and_parts (((a && b) && c) && d) e all).0).0).0).0

numbers-within : (tables : StoreTables) (before rows : List RevisionColumns) → GoodAfter (is_good_revision tables) before rows → AllByRecursion (λ row. row.rev_id ≤ length before + length rows) rows
numbers-within tables before [] good = tt
numbers-within tables before (row ∷ rows) good =
    let id : row.rev_id ≡ length before + 1 = number-of tables before row good.0 in
    let longer : length (before ++ row ∷ []) ≡ length before + 1 = length-append before (row ∷ []) in (
      omega arith,
      each-weaker (λ later. later.rev_id ≤ length (before ++ row ∷ []) + length rows) (λ later. later.rev_id ≤ length before + length (row ∷ rows)) (λ later within. omega arith) rows (numbers-within tables (before ++ row ∷ []) rows good.1),
    )

all-below : {X : Type 0} (f : X → ℕ) (n : ℕ) (xs : List X) → AllByRecursion (λ x. f x < n) xs → list_all (λ x. ltb (f x) n) xs ≡ true
all-below f n [] all = refl
all-below f n (x ∷ xs) all = and_from (ltb (f x) n) (list_all (λ y. ltb (f y) n) xs) (lt-ltb (f x) n all.0) (all-below f n xs all.1)

revision-fits : (tables : StoreTables) (revision : RevisionColumns) (page : PageColumns) → FitRevision tables revision page → KeepsRules tables → edit_fits tables (add_revision revision) ≡ true
revision-fits tables revision page fit keeps =
    all-below (λ row. row.rev_id) revision.rev_id tables.revisions
    (each-weaker (λ row. row.rev_id ≤ 0 + length tables.revisions) (λ row. row.rev_id < revision.rev_id)
    (λ row within. let number : revision.rev_id ≡ length tables.revisions + 1 = fit.number in omega arith) tables.revisions (numbers-within tables [] tables.revisions keeps.revisions))

standing-fits : (tables : StoreTables) (old page : PageColumns) → IsStanding tables old page → edit_fits tables (set_page page) ≡ true
standing-fits tables old page standing =
    or_left (has_page tables page.page_id) (list_all (λ row. ltb row.page_id page.page_id) tables.pages) (find-passes (λ row. eqb row.page_id page.page_id) tables.pages old standing.there).1

next-fits : (tables : StoreTables) (page : PageColumns) → IsNext tables page → KeepsRules tables → edit_fits tables (set_page page) ≡ true
next-fits tables page next keeps =
    or_right (has_page tables page.page_id) (list_all (λ row. ltb row.page_id page.page_id) tables.pages)
    (all-below (λ row. row.page_id) page.page_id tables.pages
    (each-weaker (λ row. row.page_id ≤ 0 + length tables.pages) (λ row. row.page_id < page.page_id)
    (λ row within. let number : page.page_id ≡ length tables.pages + 1 = next.number in omega arith) tables.pages (ids-within [] tables.pages keeps.ids)))

job-fits : (tables : StoreTables) (job : JobColumns) → is_good_job tables tables.jobs job ≡ true → edit_fits tables (add_job job) ≡ true
job-fits tables job good =
    let kind = cond (bytes_eq job.job_cmd refresh_cmd) (is_good_refresh tables tables.jobs job) (is_good_fan tables.jobs job) in
    let number = (and_parts (is_good_number tables.version tables.jobs job) kind good).0 in
    (and_parts (leb 1 job.job_id && ltb job.job_id (job_bound tables.version)) (list_all (λ earlier. ltb earlier.job_id job.job_id) tables.jobs) number).1

fits-applied : {tables : StoreTables} {change : List TableEdit} → KeepsRules tables → FitChange tables change → fits tables change ≡ true
fits-applied keeps nothing = refl
fits-applied {tables} keeps (saves_page {revision} {old} {page} {change} fit standing later) =
    and_from _ _ (revision-fits tables revision page fit keeps)
    (and_from _ _ (standing-fits tables old page standing) (fits-applied (KeepsRules-standing tables revision old page fit standing keeps) later))
fits-applied {tables} keeps (adds_page {revision} {page} {change} fit next later) =
    and_from _ _ (revision-fits tables revision page fit keeps)
    (and_from _ _ (next-fits tables page next keeps) (fits-applied (KeepsRules-next tables revision page fit next keeps) later))
fits-applied {tables} keeps (sets_rows {page} {rows} fit later) = and_from _ _ fit.there (fits-applied (KeepsRules-set_rows tables page rows fit keeps) later)
fits-applied {tables} keeps (adds_job {job} good later) = and_from _ _ (job-fits tables job good) (fits-applied (KeepsRules-add_job tables keeps job good) later)
fits-applied {tables} keeps (sets_job {old} {job} fit later) =
    and_from _ _ (find-passes (λ row. eqb row.job_id job.job_id) tables.jobs old fit.there).1 (fits-applied (KeepsRules-set_job tables keeps old job fit) later)
fits-applied {tables} keeps (drops_job {id} there later) = and_from _ _ there (fits-applied (KeepsRules-drop_job tables keeps id) later)
fits-applied keeps (raises_version later) = and_from _ _ refl (fits-applied (KeepsRules-set_version _ keeps) later)

pub fits-good : (tables : StoreTables) (change : List TableEdit) → IsGood tables → FitChange tables change → fits tables change ≡ true
fits-good tables change good fit = fits-applied (KeepsRules-from_good tables good) fit

pub IsGood-new : IsGood no_tables
unfolding first_broken
IsGood-new = refl

-- ---- rows by their places

good-at : {Row : Type 0} (is_good : List Row → Row → Bool) (before rows : List Row) (place : ℕ) (row : Row) → GoodAfter is_good before rows → slice_get rows place ≡ Some row → is_good (before ++ take place rows) row ≡ true
good-at is_good before [] place row good there = absurd (let e : None ≡ Some row = there in cc)
good-at is_good before (first ∷ rows) zero row good there =
    let e : first ≡ row = (let same : Some first ≡ Some row = there in cc) in
    rw append-nil (subst (λ x. is_good before x ≡ true) e good.0)
good-at is_good before (first ∷ rows) (suc place) row good there =
    rw (← append_assoc before (first ∷ []) (take place rows)) (good-at is_good (before ++ first ∷ []) rows place row good.1 there)

-- each row is good behind the rows before its place
pub EachGood-at : {Row : Type 0} (is_good : List Row → Row → Bool) (rows : List Row) (place : ℕ) (row : Row) → EachGood is_good rows → slice_get rows place ≡ Some row → is_good (take place rows) row ≡ true
EachGood-at is_good rows place row good there = good-at is_good [] rows place row good there

id-at : (before rows : List PageColumns) (place : ℕ) (row : PageColumns) → GoodAfter has_good_id before rows → slice_get rows place ≡ Some row → row.page_id ≡ length before + place + 1
id-at before [] place row good there = absurd (let e : None ≡ Some row = there in cc)
id-at before (first ∷ rows) zero row good there =
    let e : first ≡ row = (let same : Some first ≡ Some row = there in cc) in
    let id : first.page_id ≡ length before + 1 = eqb-true first.page_id (length before + 1) (and_parts (eqb first.page_id (length before + 1)) (leb first.page_id max_pages) good.0).0 in
    let moved : row.page_id ≡ first.page_id = ap (λ (r : PageColumns). r.page_id) (sym e) in
    omega arith
id-at before (first ∷ rows) (suc place) row good there =
    let longer : length (before ++ first ∷ []) ≡ length before + 1 = length-append before (first ∷ []) in
    let later : row.page_id ≡ length (before ++ first ∷ []) + place + 1 = id-at (before ++ first ∷ []) rows place row good.1 there in
    omega arith

number-at : (tables : StoreTables) (before rows : List RevisionColumns) (place : ℕ) (row : RevisionColumns) → GoodAfter (is_good_revision tables) before rows → slice_get rows place ≡ Some row → row.rev_id ≡ length before + place + 1
number-at tables before [] place row good there = absurd (let e : None ≡ Some row = there in cc)
number-at tables before (first ∷ rows) zero row good there =
    let e : first ≡ row = (let same : Some first ≡ Some row = there in cc) in
    let id : first.rev_id ≡ length before + 1 = number-of tables before first good.0 in
    let moved : row.rev_id ≡ first.rev_id = ap (λ (r : RevisionColumns). r.rev_id) (sym e) in
    omega arith
number-at tables before (first ∷ rows) (suc place) row good there =
    let longer : length (before ++ first ∷ []) ≡ length before + 1 = length-append before (first ∷ []) in
    let later : row.rev_id ≡ length (before ++ first ∷ []) + place + 1 = number-at tables (before ++ first ∷ []) rows place row good.1 there in
    omega arith

pub page_id-is : (tables : StoreTables) (place : ℕ) (row : PageColumns) → IsGood tables → slice_get tables.pages place ≡ Some row → row.page_id ≡ place + 1
page_id-is tables place row good there = let at : row.page_id ≡ 0 + place + 1 = id-at [] tables.pages place row (KeepsRules-from_good tables good).ids there in omega arith

pub rev_id-is : (tables : StoreTables) (place : ℕ) (row : RevisionColumns) → IsGood tables → slice_get tables.revisions place ≡ Some row → row.rev_id ≡ place + 1
rev_id-is tables place row good there = let at : row.rev_id ≡ 0 + place + 1 = number-at tables [] tables.revisions place row (KeepsRules-from_good tables good).revisions there in omega arith
