-- The texts of the queries that read a store.
use Rattle.std.specs.Prelude.{ℕ, List, codes}

abbrev pub pages_text : List ℕ
pages_text = codes "SELECT page_id, page_namespace, page_title, page_latest, page_len FROM page ORDER BY page_id"

abbrev pub revisions_text : List ℕ
revisions_text = codes "SELECT rev_id, rev_page, rev_parent_id, rev_timestamp, rev_len, rev_gone, rev_text FROM revision ORDER BY rev_id"

abbrev pub redirects_text : List ℕ
redirects_text = codes "SELECT rd_from, rd_namespace, rd_title FROM redirect ORDER BY rd_from"

abbrev pub jobs_text : List ℕ
jobs_text = codes "SELECT job_id, job_cmd, job_namespace, job_title, job_params FROM job ORDER BY job_id"

abbrev pub pagelinks_text : List ℕ
pagelinks_text = codes "SELECT pl_from, pl_from_namespace, pl_namespace, pl_title FROM pagelinks ORDER BY pl_from, pl_namespace, pl_title"

abbrev pub templatelinks_text : List ℕ
templatelinks_text = codes "SELECT tl_from, tl_from_namespace, tl_namespace, tl_title FROM templatelinks ORDER BY tl_from, tl_namespace, tl_title"

abbrev pub existlinks_text : List ℕ
existlinks_text = codes "SELECT el_from, el_from_namespace, el_namespace, el_title FROM existlinks ORDER BY el_from, el_namespace, el_title"

abbrev pub categorylinks_text : List ℕ
categorylinks_text = codes "SELECT cl_from, cl_to, cl_sortkey, cl_sortkey_prefix FROM categorylinks ORDER BY cl_from, cl_to"

abbrev pub version_text : List ℕ
version_text = codes "SELECT site_value FROM site WHERE site_key = 'version'"
