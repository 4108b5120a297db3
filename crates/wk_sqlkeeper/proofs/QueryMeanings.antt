-- What the queries that read whole tables mean.
use Rattle.std.proofs.Common.{◌≡◌, ℕ, List, [], ◌∷◌, codes, drop, false, refl}
use Rattle.sqlite_value.specs.declared.keys.Collation.TheVariants.{Binary}
use Rattle.sqlite_value.specs.declared.value.Value.TheVariants.{Text}
use Rattle.sqlite_value.specs.Order.{Row, column}
use Rattle.sqlite_sql.specs.declared.ops.BinaryOp.TheVariants.{Compare}
use Rattle.sqlite_sql.specs.declared.ops.CompareOp.TheVariants.{Eq}
use Rattle.sqlite_sql.specs.Term.{Term, col, lit, op2}
use Rattle.sqlite_sql.specs.Query.{Output, output}
use Rattle.sqlite_tied.specs.Compute.{everything}
use Rattle.sqlite.specs.Command.TheVariants.{Select}
use Rattle.sqlite.specs.Listing.{understood, reads_listing}
use Rattle.sqlite.proofs.Callers.{IsPlain, command_of}
use Rattle.wk_sqltables.specs.StoreSchema.{store_schema}
use Rattle.wk_sqltables.specs.Entries.{page_values, revision_values, link_values, member_values, redirect_values, job_values}
use Rattle.wk_sqlkeeper.specs.Queries.{pages_text, revisions_text, pagelinks_text, templatelinks_text, existlinks_text, categorylinks_text, redirects_text, jobs_text, version_text}
use Rattle.wk_sqlkeeper.proofs.ListQueries.{Lists, listed, ShowsKeyed, ShowsListed}
use Rattle.wk_sqltables.proofs.Picked.{picked}

-- ---- tables whose first column is the row number

abbrev pub page_project : List Term
page_project = col 1 0 ∷ col 1 2 ∷ col 1 3 ∷ col 1 4 ∷ col 1 5 ∷ []

pub lists_pages : Lists pages_text 0 page_project (col 1 0 ∷ []) (codes "page_id" ∷ codes "page_namespace" ∷ codes "page_title" ∷ codes "page_latest" ∷ codes "page_len" ∷ [])
unfolding understood everything
lists_pages = record { is = refl; plain = (refl, refl); unlisted = refl; stays = λ db. refl }

pub shows_pages : ShowsKeyed page_values (λ x. x.page_id) 0 page_project
shows_pages x = (refl, refl)

abbrev pub revision_project : List Term
revision_project = col 1 0 ∷ col 1 2 ∷ col 1 3 ∷ col 1 4 ∷ col 1 5 ∷ col 1 6 ∷ col 1 7 ∷ []

pub lists_revisions : Lists revisions_text 2 revision_project (col 1 0 ∷ []) (codes "rev_id" ∷ codes "rev_page" ∷ codes "rev_parent_id" ∷ codes "rev_timestamp" ∷ codes "rev_len" ∷ codes "rev_gone" ∷ codes "rev_text" ∷ [])
unfolding understood everything
lists_revisions = record { is = refl; plain = (refl, refl); unlisted = refl; stays = λ db. refl }

pub shows_revisions : ShowsKeyed revision_values (λ x. x.rev_id) 2 revision_project
shows_revisions x = (refl, refl)

abbrev pub redirect_project : List Term
redirect_project = col 1 0 ∷ col 1 2 ∷ col 1 3 ∷ []

pub lists_redirects : Lists redirects_text 14 redirect_project (col 1 0 ∷ []) (codes "rd_from" ∷ codes "rd_namespace" ∷ codes "rd_title" ∷ [])
unfolding understood everything
lists_redirects = record { is = refl; plain = (refl, refl); unlisted = refl; stays = λ db. refl }

pub shows_redirects : ShowsKeyed redirect_values (λ x. x.rd_from) 14 redirect_project
shows_redirects x = (refl, refl)

abbrev pub job_project : List Term
job_project = col 1 0 ∷ col 1 2 ∷ col 1 3 ∷ col 1 4 ∷ col 1 5 ∷ []

pub lists_jobs : Lists jobs_text 11 job_project (col 1 0 ∷ []) (codes "job_id" ∷ codes "job_cmd" ∷ codes "job_namespace" ∷ codes "job_title" ∷ codes "job_params" ∷ [])
unfolding understood everything
lists_jobs = record { is = refl; plain = (refl, refl); unlisted = refl; stays = λ db. refl }

pub shows_jobs : ShowsKeyed job_values (λ x. x.job_id) 11 job_project
shows_jobs x = (refl, refl)

-- ---- tables whose row numbers the database chose

abbrev pub four : List Term
four = col 1 1 ∷ col 1 2 ∷ col 1 3 ∷ col 1 4 ∷ []

abbrev pub link_keys : List Term
link_keys = col 1 1 ∷ col 1 3 ∷ col 1 4 ∷ []

abbrev pub link_shown : Row → Output
link_shown v = (column v 0 ∷ column v 2 ∷ column v 3 ∷ [], column v 0 ∷ column v 1 ∷ column v 2 ∷ column v 3 ∷ [])

pub shows_links : (tree : ℕ) → ShowsListed link_values tree four link_keys link_shown
shows_links tree = (one, λ l. refl)
  where
    one : (r : Row) → output (listed tree four link_keys) ([] ∷ r ∷ []) ≡ link_shown (drop 1 r)
    one [] = refl
    one (v ∷ r) = refl

pub lists_pagelinks : Lists pagelinks_text 3 four link_keys (codes "pl_from" ∷ codes "pl_from_namespace" ∷ codes "pl_namespace" ∷ codes "pl_title" ∷ [])
unfolding understood everything
lists_pagelinks = record { is = refl; plain = (refl, refl); unlisted = refl; stays = λ db. refl }

pub lists_templatelinks : Lists templatelinks_text 5 four link_keys (codes "tl_from" ∷ codes "tl_from_namespace" ∷ codes "tl_namespace" ∷ codes "tl_title" ∷ [])
unfolding understood everything
lists_templatelinks = record { is = refl; plain = (refl, refl); unlisted = refl; stays = λ db. refl }

pub lists_existlinks : Lists existlinks_text 7 four link_keys (codes "el_from" ∷ codes "el_from_namespace" ∷ codes "el_namespace" ∷ codes "el_title" ∷ [])
unfolding understood everything
lists_existlinks = record { is = refl; plain = (refl, refl); unlisted = refl; stays = λ db. refl }

abbrev pub member_keys : List Term
member_keys = col 1 1 ∷ col 1 2 ∷ []

abbrev pub member_shown : Row → Output
member_shown v = (column v 0 ∷ column v 1 ∷ [], column v 0 ∷ column v 1 ∷ column v 2 ∷ column v 3 ∷ [])

pub shows_members : ShowsListed member_values 9 four member_keys member_shown
shows_members = (one, λ m. refl)
  where
    one : (r : Row) → output (listed 9 four member_keys) ([] ∷ r ∷ []) ≡ member_shown (drop 1 r)
    one [] = refl
    one (v ∷ r) = refl

pub lists_categorylinks : Lists categorylinks_text 9 four member_keys (codes "cl_from" ∷ codes "cl_to" ∷ codes "cl_sortkey" ∷ codes "cl_sortkey_prefix" ∷ [])
unfolding understood everything
lists_categorylinks = record { is = refl; plain = (refl, refl); unlisted = refl; stays = λ db. refl }

-- ---- the version

abbrev pub by_version : List Term
by_version = op2 (Compare Eq Binary) (col 1 1) (lit (Text (codes "version"))) ∷ []

pub version_is : (command_of (understood store_schema version_text) ≡ Select (record { lets = []; body = picked 12 by_version (col 1 2 ∷ []) }) (codes "site_value" ∷ [])) × (reads_listing store_schema version_text ≡ false)
unfolding understood everything
version_is = (refl, refl)

pub version_plain : IsPlain (understood store_schema version_text)
unfolding understood everything
version_plain = (refl, refl)
