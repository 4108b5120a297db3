-- What is known of good rows.
use Rattle.std.proofs.Common.{◌≡◌, ◌+◌, ◌≤◌, ◌<◌, Bool, true, cond, not, ◌&&◌, ◌||◌, ltb, leb, eqb, List, [], ◌∷◌, ◌++◌, length, bytes_eq, eqb-true}
use Rattle.std.specs.List.{list_all, list_any}
use Rattle.std.specs.Ordering.{int_eq}
use Rattle.std.proofs.lemmas.Bool.{and_parts, leb-true, ltb-true}
use Rattle.wk_text_rules.specs.Titles.{is_normal, is_page_title, title_eq}
use Rattle.wk_page_rules.specs.Verdict.{max_text, max_texts}
use Rattle.wk_table_rules.specs.Rows.{PageColumns, RevisionColumns, LinkColumns, CategoryColumns, RedirectColumns, JobColumns, StoreTables, category_title}
use Rattle.wk_table_rules.specs.Changes.{has_page, namespace_of}
use Rattle.wk_table_rules.specs.JobTable.{fan_cmd, refresh_cmd}
use Rattle.wk_table_rules.specs.GoodStore.{is_fan_params, is_good_category, is_good_fan, is_good_job, is_good_link, is_good_number, is_good_redirect, is_good_refresh, is_good_revision, is_refresh_params, job_bound, row_lt, stands_already, texts_len}

module _ (tables : StoreTables) where
  pub record RevisionIs (before : List RevisionColumns) (r : RevisionColumns) : Type 0 where
    pub number : r.rev_id ≡ length before + 1
    pub page : has_page tables r.rev_page ≡ true
    pub len : r.rev_len ≤ max_text

  pub revision-is : (before : List RevisionColumns) (r : RevisionColumns) → is_good_revision tables before r ≡ true → RevisionIs before r
  revision-is before r good =
      let number = eqb r.rev_id (length before + 1) in
      let page = has_page tables r.rev_page in
      let gone = not r.rev_gone || eqb (length r.rev_text) 0 in
      let len = eqb r.rev_len (length r.rev_text) && leb r.rev_len max_text in
      let room = leb (texts_len (before ++ r ∷ [])) max_texts in
      let a = and_parts (((number && page) && gone) && len) room good in
      let b = and_parts ((number && page) && gone) len a.0 in
      let c = and_parts (number && page) gone b.0 in
      let d = and_parts number page c.0 in
      let e = and_parts (eqb r.rev_len (length r.rev_text)) (leb r.rev_len max_text) b.1 in
      record { number = eqb-true r.rev_id (length before + 1) d.0; page = d.1; len = leb-true r.rev_len max_text e.1 }

  pub record LinkIs (before : List LinkColumns) (l : LinkColumns) : Type 0 where
    pub page : has_page tables l.from ≡ true
    pub namespace : int_eq l.from_namespace (namespace_of tables l.from) ≡ true
    pub title : is_page_title l.target ≡ true
    pub behind : list_all (λ (earlier : LinkColumns). row_lt earlier.from earlier.target l.from l.target) before ≡ true

  pub link-is : (before : List LinkColumns) (l : LinkColumns) → is_good_link tables before l ≡ true → LinkIs before l
  link-is before l good =
      let page = has_page tables l.from in
      let namespace = int_eq l.from_namespace (namespace_of tables l.from) in
      let title = is_page_title l.target in
      let behind = list_all (λ (earlier : LinkColumns). row_lt earlier.from earlier.target l.from l.target) before in
      let a = and_parts ((page && namespace) && title) behind good in
      let b = and_parts (page && namespace) title a.0 in
      let c = and_parts page namespace b.0 in
      record { page = c.0; namespace = c.1; title = b.1; behind = a.1 }

  pub record CategoryIs (before : List CategoryColumns) (r : CategoryColumns) : Type 0 where
    pub page : has_page tables r.cl_from ≡ true
    pub behind : list_all (λ (earlier : CategoryColumns). row_lt earlier.cl_from (category_title earlier.cl_to) r.cl_from (category_title r.cl_to)) before ≡ true

  pub category-is : (before : List CategoryColumns) (r : CategoryColumns) → is_good_category tables before r ≡ true → CategoryIs before r
  category-is before r good =
      let page = has_page tables r.cl_from in
      let title = is_normal (category_title r.cl_to) in
      let behind = list_all (λ (earlier : CategoryColumns). row_lt earlier.cl_from (category_title earlier.cl_to) r.cl_from (category_title r.cl_to)) before in
      let a = and_parts (page && title) behind good in
      let b = and_parts page title a.0 in
      record { page = b.0; behind = a.1 }

  pub record RedirectIs (before : List RedirectColumns) (r : RedirectColumns) : Type 0 where
    pub page : has_page tables r.rd_from ≡ true
    pub title : is_page_title r.rd_title ≡ true
    pub behind : list_all (λ (earlier : RedirectColumns). ltb earlier.rd_from r.rd_from) before ≡ true

  pub redirect-is : (before : List RedirectColumns) (r : RedirectColumns) → is_good_redirect tables before r ≡ true → RedirectIs before r
  redirect-is before r good =
      let page = has_page tables r.rd_from in
      let title = is_page_title r.rd_title in
      let behind = list_all (λ (earlier : RedirectColumns). ltb earlier.rd_from r.rd_from) before in
      let a = and_parts (page && title) behind good in
      let b = and_parts page title a.0 in
      record { page = b.0; title = b.1; behind = a.1 }

  -- a job's title is that of a page, or normal
  abbrev pub job_kind : List JobColumns → JobColumns → Bool
  job_kind before j = cond (bytes_eq j.job_cmd refresh_cmd) (is_good_refresh tables before j) (is_good_fan before j)

  pub record JobIs (before : List JobColumns) (j : JobColumns) : Type 0 where
    pub low : j.job_id < job_bound tables.version
    pub behind : list_all (λ (earlier : JobColumns). ltb earlier.job_id j.job_id) before ≡ true
    pub kind : job_kind before j ≡ true

  pub job-is : (before : List JobColumns) (j : JobColumns) → is_good_job tables before j ≡ true → JobIs before j
  job-is before j good =
      let one = leb 1 j.job_id in
      let low = ltb j.job_id (job_bound tables.version) in
      let behind = list_all (λ (earlier : JobColumns). ltb earlier.job_id j.job_id) before in
      let a = and_parts (is_good_number tables.version before j) (job_kind before j) good in
      let b = and_parts (one && low) behind a.0 in
      let c = and_parts one low b.0 in
      record { low = ltb-true j.job_id (job_bound tables.version) c.1; behind = b.1; kind = a.1 }

  pub refresh-title : (before : List JobColumns) (j : JobColumns) → is_good_refresh tables before j ≡ true → list_any (λ (p : PageColumns). title_eq p.page_title j.job_title) tables.pages ≡ true
  refresh-title before j good =
      let named = list_any (λ (p : PageColumns). title_eq p.page_title j.job_title) tables.pages in
      let once = not (stands_already before refresh_cmd j.job_title) in
      let a = and_parts (named && once) (is_refresh_params j.job_params) good in
      (and_parts named once a.0).0

  pub fan-title : (before : List JobColumns) (j : JobColumns) → is_good_fan before j ≡ true → is_normal j.job_title ≡ true
  fan-title before j good =
      let cmd = bytes_eq j.job_cmd fan_cmd in
      let title = is_normal j.job_title in
      let once = not (stands_already before fan_cmd j.job_title) in
      let a = and_parts ((cmd && title) && once) (is_fan_params j.job_params) good in
      let b = and_parts (cmd && title) once a.0 in
      (and_parts cmd title b.0).1
