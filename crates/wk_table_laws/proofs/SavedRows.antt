-- The tables stay good where a revision is appended and its page's row is set.
use Rattle.std.proofs.Common.{◌≡◌, ℕ, zero, suc, ◌+◌, ◌<◌, ◌≤◌, Bool, true, false, cond, eqb, ltb, leb, not, ◌&&◌, ◌||◌, List, [], ◌∷◌, ◌++◌, length, Option, Some, None, refl, sym, ap, ◌∙◌, subst, arith}
use Rattle.std.specs.Prelude.{bytes_eq, slice_get}
use Rattle.std.specs.List.{AllByRecursion, filter, last_or, list_all, list_any}
use Rattle.std.specs.Ordering.{int_eq}
use Rattle.std.proofs.lemmas.Bool.{and_parts, and_from, le-leb, eqb-true, eq-eqb, ne_eqb}
use Rattle.std.proofs.lemmas.List.{append-nil, length-append}
use Rattle.std.proofs.lemmas.List.Elements.{filter-append}
use Rattle.wk_text_rules.specs.Titles.{PageTitle, title_eq, is_normal, is_page_title}
use Rattle.wk_page_rules.specs.Verdict.{max_text, max_pages, max_texts}
use Rattle.wk_table_rules.specs.Rows.{StoreTables, PageColumns, RevisionColumns, LinkColumns, CategoryColumns, RedirectColumns, JobColumns, category_title}
use Rattle.wk_table_rules.specs.Changes.{has_page, namespace_of}
use Rattle.wk_table_rules.specs.JobTable.{refresh_cmd}
use Rattle.wk_table_rules.specs.GoodStore.{row_lt, has_good_id, has_good_title, is_good_revision, has_good_parent, has_good_latest, is_good_link, is_good_category, is_good_redirect, is_good_number, is_good_refresh, is_good_fan, is_good_job, stands_already, current_of, last_revision, texts_len}
use Rattle.wk_table_laws.specs.EachGood.{GoodAfter, EachGood, KeepsRules}
use Rattle.wk_table_laws.specs.Premises.{FitRevision}
use Rattle.wk_table_laws.proofs.FirstBad.{EachGood-push}
use Rattle.wk_table_laws.proofs.Pairs.{each-weaker}
use Rattle.wk_table_laws.proofs.JobRows.{GoodAfter-weaker}

-- ---- the page table grows

-- what is known of the pages of the tables stays known
pub record Grows (tables : StoreTables) (pages : List PageColumns) : Type 0 where
  pub there : (id : ℕ) → has_page tables id ≡ true → list_any (λ row. eqb row.page_id id) pages ≡ true
  pub named : (title : PageTitle) → list_any (λ row. title_eq row.page_title title) tables.pages ≡ true → list_any (λ row. title_eq row.page_title title) pages ≡ true
  pub placed : (id : ℕ) → has_page tables id ≡ true → namespace_of (record tables { pages = pages }) id ≡ namespace_of tables id

module _ (tables : StoreTables) (pages : List PageColumns) (revisions : List RevisionColumns) (grows : Grows tables pages) where
  revision-grows : (before : List RevisionColumns) (row : RevisionColumns) → is_good_revision tables before row ≡ true → is_good_revision (record tables { pages = pages; revisions = revisions }) before row ≡ true
  revision-grows before row good =
      let number = eqb row.rev_id (length before + 1) in
      let gone = not row.rev_gone || eqb (length row.rev_text) 0 in
      let len = eqb row.rev_len (length row.rev_text) && leb row.rev_len max_text in
      let room = leb (texts_len (before ++ row ∷ [])) max_texts in
      let a = and_parts (((number && has_page tables row.rev_page) && gone) && len) room good in
      let b = and_parts ((number && has_page tables row.rev_page) && gone) len a.0 in
      let c = and_parts (number && has_page tables row.rev_page) gone b.0 in
      let d = and_parts number (has_page tables row.rev_page) c.0 in
      rw (grows.there row.rev_page d.1, d.0, c.1, b.1) a.1

  link-grows : (before : List LinkColumns) (row : LinkColumns) → is_good_link tables before row ≡ true → is_good_link (record tables { pages = pages; revisions = revisions }) before row ≡ true
  link-grows before row good =
      let right = int_eq row.from_namespace (namespace_of tables row.from) in
      let behind = list_all (λ earlier. row_lt earlier.from earlier.target row.from row.target) before in
      let a = and_parts ((has_page tables row.from && right) && is_page_title row.target) behind good in
      let b = and_parts (has_page tables row.from && right) (is_page_title row.target) a.0 in
      let c = and_parts (has_page tables row.from) right b.0 in
      let right' = int_eq row.from_namespace (namespace_of (record tables { pages = pages }) row.from) in
      let still : right' ≡ true = ap (λ z. int_eq row.from_namespace z) (grows.placed row.from c.0) ∙ c.1 in
      and_from ((list_any (λ page. eqb page.page_id row.from) pages && right') && is_page_title row.target) behind
      (and_from (list_any (λ page. eqb page.page_id row.from) pages && right') (is_page_title row.target)
      (and_from (list_any (λ page. eqb page.page_id row.from) pages) right' (grows.there row.from c.0) still) b.1) a.1

  category-grows : (before : List CategoryColumns) (row : CategoryColumns) → is_good_category tables before row ≡ true → is_good_category (record tables { pages = pages; revisions = revisions }) before row ≡ true
  category-grows before row good =
      let behind = list_all (λ earlier. row_lt earlier.cl_from (category_title earlier.cl_to) row.cl_from (category_title row.cl_to)) before in
      let a = and_parts (has_page tables row.cl_from && is_normal (category_title row.cl_to)) behind good in
      let b = and_parts (has_page tables row.cl_from) (is_normal (category_title row.cl_to)) a.0 in
      rw (grows.there row.cl_from b.0, b.1) a.1

  redirect-grows : (before : List RedirectColumns) (row : RedirectColumns) → is_good_redirect tables before row ≡ true → is_good_redirect (record tables { pages = pages; revisions = revisions }) before row ≡ true
  redirect-grows before row good =
      let behind = list_all (λ earlier. ltb earlier.rd_from row.rd_from) before in
      let a = and_parts (has_page tables row.rd_from && is_page_title row.rd_title) behind good in
      let b = and_parts (has_page tables row.rd_from) (is_page_title row.rd_title) a.0 in
      rw (grows.there row.rd_from b.0, b.1) a.1

  job-grows : (before : List JobColumns) (row : JobColumns) → is_good_job tables before row ≡ true → is_good_job (record tables { pages = pages; revisions = revisions }) before row ≡ true
  job-grows before row good = go (bytes_eq row.job_cmd refresh_cmd) good
    where
      go : (refresh : Bool) → (is_good_number tables.version before row && cond refresh (is_good_refresh tables before row) (is_good_fan before row)) ≡ true
          → (is_good_number tables.version before row && cond refresh ((list_any (λ page. title_eq page.page_title row.job_title) pages && not (stands_already before refresh_cmd row.job_title)) && eqb (length row.job_params) 0) (is_good_fan before row)) ≡ true
      go false good = good
      go true good =
          let once = not (stands_already before refresh_cmd row.job_title) in
          let empty = eqb (length row.job_params) 0 in
          let a = and_parts (is_good_number tables.version before row) (is_good_refresh tables before row) good in
          let b = and_parts (list_any (λ page. title_eq page.page_title row.job_title) tables.pages && once) empty a.1 in
          let c = and_parts (list_any (λ page. title_eq page.page_title row.job_title) tables.pages) once b.0 in
          rw (a.0, grows.named row.job_title c.0, c.1) b.1

-- ---- the last revision of a page

last_or-push : {X : Type 0} (o : Option X) (xs : List X) (x : X) → last_or o (xs ++ x ∷ []) ≡ Some x
last_or-push o [] x = refl
last_or-push o (y ∷ xs) x = last_or-push (Some y) xs x

last_revision-own : (revisions : List RevisionColumns) (new : RevisionColumns) (page : ℕ) → eqb new.rev_page page ≡ true → last_revision (revisions ++ new ∷ []) page ≡ Some new
last_revision-own revisions new page same =
    rw (filter-append (λ revision. eqb revision.rev_page page) revisions (new ∷ []), same) (last_or-push None (filter (λ revision. eqb revision.rev_page page) revisions) new)

last_revision-other : (revisions : List RevisionColumns) (new : RevisionColumns) (page : ℕ) → eqb new.rev_page page ≡ false → last_revision (revisions ++ new ∷ []) page ≡ last_revision revisions page
last_revision-other revisions new page other =
    rw (filter-append (λ revision. eqb revision.rev_page page) revisions (new ∷ []), other, append-nil) refl

-- a page's row, by its page's last revision
latest_by : Option RevisionColumns → PageColumns → Bool
latest_by None page = false
latest_by (Some last) page = eqb page.page_latest (cond last.rev_gone 0 last.rev_id) && eqb page.page_len last.rev_len

has_good_latest-is : (tables : StoreTables) (before : List PageColumns) (page : PageColumns) → has_good_latest tables before page ≡ latest_by (last_revision tables.revisions page.page_id) page
unfolding latest_by
has_good_latest-is tables before page = go (last_revision tables.revisions page.page_id)
  where
    go : (o : Option RevisionColumns) → (elim o as (λ x. Bool) [ None ↦ false | Some last ↦ eqb page.page_latest (elim o as (λ x. ℕ) [ None ↦ 0 | Some last ↦ cond last.rev_gone 0 last.rev_id ]) && eqb page.page_len last.rev_len ]) ≡ latest_by o page
    go None = refl
    go (Some last) = refl

-- ---- what is not about the pages' own rows

pub each-at : {X : Type 0} (P : X → Type 0) (xs : List X) (i : ℕ) (x : X) → slice_get xs i ≡ Some x → AllByRecursion P xs → P x
each-at P [] i x there all = absurd (let e : None ≡ Some x = there in cc)
each-at P (y ∷ xs) zero x there all = let e : y ≡ x = (let same : Some y ≡ Some x = there in cc) in subst P e all.0
each-at P (y ∷ xs) (suc i) x there all = each-at P xs i x there all.1

-- the ids of later rows are above the number of the rows before them
pub ids-above : (before rows : List PageColumns) → GoodAfter has_good_id before rows → AllByRecursion (λ row. length before < row.page_id) rows
ids-above before [] good = tt
ids-above before (row ∷ rows) good =
    let parts = and_parts (eqb row.page_id (length before + 1)) (leb row.page_id max_pages) good.0 in
    let id : row.page_id ≡ length before + 1 = eqb-true row.page_id (length before + 1) parts.0 in
    let longer : length (before ++ row ∷ []) ≡ length before + 1 = length-append before (row ∷ []) in (
      omega arith,
      each-weaker (λ later. length (before ++ row ∷ []) < later.page_id) (λ later. length before < later.page_id) (λ later above. omega arith) rows (ids-above (before ++ row ∷ []) rows good.1),
    )

pub ids-within : (before rows : List PageColumns) → GoodAfter has_good_id before rows → AllByRecursion (λ row. row.page_id ≤ length before + length rows) rows
ids-within before [] good = tt
ids-within before (row ∷ rows) good =
    let parts = and_parts (eqb row.page_id (length before + 1)) (leb row.page_id max_pages) good.0 in
    let id : row.page_id ≡ length before + 1 = eqb-true row.page_id (length before + 1) parts.0 in
    let longer : length (before ++ row ∷ []) ≡ length before + 1 = length-append before (row ∷ []) in (
      omega arith,
      each-weaker (λ later. later.page_id ≤ length (before ++ row ∷ []) + length rows) (λ later. later.page_id ≤ length before + length (row ∷ rows)) (λ later within. omega arith) rows (ids-within (before ++ row ∷ []) rows good.1),
    )

module _ (tables : StoreTables) (revision : RevisionColumns) (page : PageColumns) (fit : FitRevision tables revision page) (pages : List PageColumns) where
  pub latest-own : has_good_latest (record tables { pages = pages; revisions = tables.revisions ++ revision ∷ [] }) [] page ≡ true
  unfolding latest_by
  latest-own =
      let own : eqb revision.rev_page page.page_id ≡ true = eq-eqb revision.rev_page page.page_id fit.of_page in
      has_good_latest-is (record tables { pages = pages; revisions = tables.revisions ++ revision ∷ [] }) [] page
      ∙ rw (last_revision-own tables.revisions revision page.page_id own)
      (and_from (eqb page.page_latest (cond revision.rev_gone 0 revision.rev_id)) (eqb page.page_len revision.rev_len)
      (eq-eqb page.page_latest (cond revision.rev_gone 0 revision.rev_id) fit.latest) (eq-eqb page.page_len revision.rev_len fit.page_len))

  pub latest-other : (row : PageColumns) → (row.page_id ≡ page.page_id → ⊥) → has_good_latest tables [] row ≡ true → has_good_latest (record tables { pages = pages; revisions = tables.revisions ++ revision ∷ [] }) [] row ≡ true
  latest-other row apart good =
      let other : eqb revision.rev_page row.page_id ≡ false = ne_eqb revision.rev_page row.page_id (λ same. apart (sym same ∙ fit.of_page)) in
      let before : latest_by (last_revision tables.revisions row.page_id) row ≡ true = sym (has_good_latest-is tables [] row) ∙ good in
      has_good_latest-is (record tables { pages = pages; revisions = tables.revisions ++ revision ∷ [] }) [] row
      ∙ rw (last_revision-other tables.revisions revision row.page_id other) before

  -- a revision is appended; the page table has these rows from then on
  pub KeepsRules-saved : KeepsRules tables → Grows tables pages → list_any (λ row. eqb row.page_id revision.rev_page) pages ≡ true
      → EachGood has_good_id pages → EachGood has_good_title pages
      → AllByRecursion (λ row. has_good_latest (record tables { pages = pages; revisions = tables.revisions ++ revision ∷ [] }) [] row ≡ true) pages
      → KeepsRules (record tables { pages = pages; revisions = tables.revisions ++ revision ∷ [] })
  KeepsRules-saved keeps grows own ids titles latest =
      let revisions = tables.revisions ++ revision ∷ [] in
      let saved : StoreTables = record tables { pages = pages; revisions = revisions } in
      record {
        ids = ids;
        titles = titles;
        revisions = EachGood-push (is_good_revision saved) tables.revisions revision
            (GoodAfter-weaker (is_good_revision tables) (is_good_revision saved) (revision-grows tables pages revisions grows) [] tables.revisions keeps.revisions)
            (rw (eq-eqb revision.rev_id (length tables.revisions + 1) fit.number, own, fit.gone, eq-eqb revision.rev_len (length revision.rev_text) fit.len, le-leb revision.rev_len max_text fit.short)
            (le-leb (texts_len revisions) max_texts fit.room));
        parents = EachGood-push has_good_parent tables.revisions revision keeps.parents
            (eq-eqb revision.rev_parent_id (current_of tables.revisions revision.rev_page) (fit.parent ∙ ap (current_of tables.revisions) (sym fit.of_page)));
        latest = each-good pages [] latest;
        pagelinks = GoodAfter-weaker (is_good_link tables) (is_good_link saved) (link-grows tables pages revisions grows) [] tables.pagelinks keeps.pagelinks;
        templatelinks = GoodAfter-weaker (is_good_link tables) (is_good_link saved) (link-grows tables pages revisions grows) [] tables.templatelinks keeps.templatelinks;
        existlinks = GoodAfter-weaker (is_good_link tables) (is_good_link saved) (link-grows tables pages revisions grows) [] tables.existlinks keeps.existlinks;
        categorylinks = GoodAfter-weaker (is_good_category tables) (is_good_category saved) (category-grows tables pages revisions grows) [] tables.categorylinks keeps.categorylinks;
        redirects = GoodAfter-weaker (is_good_redirect tables) (is_good_redirect saved) (redirect-grows tables pages revisions grows) [] tables.redirects keeps.redirects;
        jobs = GoodAfter-weaker (is_good_job tables) (is_good_job saved) (job-grows tables pages revisions grows) [] tables.jobs keeps.jobs;
        version = keeps.version;
      }
    where
      each-good : (rows before : List PageColumns)
          → AllByRecursion (λ row. has_good_latest (record tables { pages = pages; revisions = tables.revisions ++ revision ∷ [] }) [] row ≡ true) rows
          → GoodAfter (has_good_latest (record tables { pages = pages; revisions = tables.revisions ++ revision ∷ [] })) before rows
      each-good [] before all = tt
      each-good (row ∷ rows) before all = (all.0, each-good rows (before ++ row ∷ []) all.1)
