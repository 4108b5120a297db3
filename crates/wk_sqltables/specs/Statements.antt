-- The texts of the statements.
use Rattle.std.specs.Prelude.{ℕ, List, codes}

abbrev pub add_job_text : List ℕ
add_job_text = codes "INSERT INTO job (job_id, job_cmd, job_namespace, job_title, job_params) VALUES (?1, ?2, ?3, ?4, ?5)"

abbrev pub set_job_text : List ℕ
set_job_text = codes "UPDATE job SET job_cmd = ?2, job_namespace = ?3, job_title = ?4, job_params = ?5 WHERE job_id = ?1"

abbrev pub drop_job_text : List ℕ
drop_job_text = codes "DELETE FROM job WHERE job_id = ?1"

abbrev pub set_version_text : List ℕ
set_version_text = codes "UPDATE site SET site_value = ?1 WHERE site_key = 'version'"

abbrev pub add_revision_text : List ℕ
add_revision_text = codes "INSERT INTO revision (rev_id, rev_page, rev_parent_id, rev_timestamp, rev_len, rev_gone, rev_text) VALUES (?1, ?2, ?3, ?4, ?5, ?6, ?7)"

abbrev pub set_page_text : List ℕ
set_page_text = codes "INSERT INTO page (page_id, page_namespace, page_title, page_latest, page_len) VALUES (?1, ?2, ?3, ?4, ?5) ON CONFLICT (page_id) DO UPDATE SET page_namespace = excluded.page_namespace, page_title = excluded.page_title, page_latest = excluded.page_latest, page_len = excluded.page_len"

abbrev pub drop_members_text : List ℕ
drop_members_text = codes "DELETE FROM categorylinks WHERE cl_from = ?1"

abbrev pub add_member_text : List ℕ
add_member_text = codes "INSERT INTO categorylinks (cl_from, cl_to, cl_sortkey, cl_sortkey_prefix) VALUES (?1, ?2, ?3, ?4)"

abbrev pub drop_redirect_text : List ℕ
drop_redirect_text = codes "DELETE FROM redirect WHERE rd_from = ?1"

abbrev pub add_redirect_text : List ℕ
add_redirect_text = codes "INSERT INTO redirect (rd_from, rd_namespace, rd_title) VALUES (?1, ?2, ?3)"

abbrev pub page_namespace_text : List ℕ
page_namespace_text = codes "SELECT page_namespace FROM page WHERE page_id = ?1"
