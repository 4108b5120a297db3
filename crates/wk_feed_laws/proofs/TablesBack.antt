-- The rows of tables are the rows of these tables again.
use Rattle.std.proofs.Common.{◌≡◌, ◌<◌, ◌^◌, List, [], ◌∷◌, ◌++◌, map, Option, Some, None, option_and_then, refl, ap, ◌∙◌, append-nil}
use Rattle.std.specs.Prelude.{filter_map, unwrap_or}
use Rattle.std.specs.Fmt.{decimal}
use Rattle.std.specs.List.{cons_option, last_or}
use Rattle.wk_text_rules.specs.Decimal.{decimal_number}
use Rattle.wk_table_rules.specs.Rows.{StoreTables}
use Rattle.wk_table_laws.proofs.JobParams.{decimal_number-decimal}
use Rattle.wk_feed_rules.specs.Lines.{TableRow, of_page, of_revision, of_pagelinks, of_templatelinks, of_existlinks, of_categorylinks, of_redirect, of_job, of_site}
use Rattle.wk_feed_rules.specs.Feeds.{rows_of_tables}
use Rattle.wk_feed_rules.specs.Taking.{page_in, revision_in, pagelinks_in, templatelinks_in, existlinks_in, category_in, redirect_in, job_in, version_in, tables_of_rows}

module _ {Row Kept : Type 0} (of : Row → TableRow) (in_row : TableRow → Option Kept) where
  -- rows of another table
  skipped : ((r : Row) → in_row (of r) ≡ None) → (rows : List Row) (more : List TableRow) → filter_map in_row (map of rows ++ more) ≡ filter_map in_row more
  skipped other [] more = refl
  skipped other (r ∷ rows) more = ap (λ (o : Option Kept). cons_option o (filter_map in_row (map of rows ++ more))) (other r) ∙ skipped other rows more

module _ {Row : Type 0} (of : Row → TableRow) (in_row : TableRow → Option Row) where
  -- rows of this table
  found : ((r : Row) → in_row (of r) ≡ Some r) → (rows : List Row) (more : List TableRow) → filter_map in_row (map of rows ++ more) ≡ rows ++ filter_map in_row more
  found own [] more = refl
  found own (r ∷ rows) more = ap (λ (o : Option Row). cons_option o (filter_map in_row (map of rows ++ more))) (own r) ∙ ap (λ l. r ∷ l) (found own rows more)

module _ (t : StoreTables) where
  abbrev rest8 : List TableRow
  rest8 = of_site (decimal t.version) ∷ []

  abbrev rest7 : List TableRow
  rest7 = map of_job t.jobs ++ rest8

  abbrev rest6 : List TableRow
  rest6 = map of_redirect t.redirects ++ rest7

  abbrev rest5 : List TableRow
  rest5 = map of_categorylinks t.categorylinks ++ rest6

  abbrev rest4 : List TableRow
  rest4 = map of_existlinks t.existlinks ++ rest5

  abbrev rest3 : List TableRow
  rest3 = map of_templatelinks t.templatelinks ++ rest4

  abbrev rest2 : List TableRow
  rest2 = map of_pagelinks t.pagelinks ++ rest3

  abbrev rest1 : List TableRow
  rest1 = map of_revision t.revisions ++ rest2

  pages-back : filter_map page_in (rows_of_tables t) ≡ t.pages
  pages-back =
      found of_page page_in (λ r. refl) t.pages rest1
      ∙ (ap (λ l. t.pages ++ l) (skipped of_revision page_in (λ r. refl) t.revisions rest2
      ∙ (skipped of_pagelinks page_in (λ r. refl) t.pagelinks rest3
      ∙ (skipped of_templatelinks page_in (λ r. refl) t.templatelinks rest4
      ∙ (skipped of_existlinks page_in (λ r. refl) t.existlinks rest5
      ∙ (skipped of_categorylinks page_in (λ r. refl) t.categorylinks rest6
      ∙ (skipped of_redirect page_in (λ r. refl) t.redirects rest7
      ∙ (skipped of_job page_in (λ r. refl) t.jobs rest8)))))))
      ∙ (append-nil t.pages))

  revisions-back : filter_map revision_in (rows_of_tables t) ≡ t.revisions
  revisions-back =
      skipped of_page revision_in (λ r. refl) t.pages rest1
      ∙ (found of_revision revision_in (λ r. refl) t.revisions rest2
      ∙ (ap (λ l. t.revisions ++ l) (skipped of_pagelinks revision_in (λ r. refl) t.pagelinks rest3
      ∙ (skipped of_templatelinks revision_in (λ r. refl) t.templatelinks rest4
      ∙ (skipped of_existlinks revision_in (λ r. refl) t.existlinks rest5
      ∙ (skipped of_categorylinks revision_in (λ r. refl) t.categorylinks rest6
      ∙ (skipped of_redirect revision_in (λ r. refl) t.redirects rest7
      ∙ (skipped of_job revision_in (λ r. refl) t.jobs rest8))))))
      ∙ (append-nil t.revisions)))

  pagelinks-back : filter_map pagelinks_in (rows_of_tables t) ≡ t.pagelinks
  pagelinks-back =
      skipped of_page pagelinks_in (λ r. refl) t.pages rest1
      ∙ (skipped of_revision pagelinks_in (λ r. refl) t.revisions rest2
      ∙ (found of_pagelinks pagelinks_in (λ r. refl) t.pagelinks rest3
      ∙ (ap (λ l. t.pagelinks ++ l) (skipped of_templatelinks pagelinks_in (λ r. refl) t.templatelinks rest4
      ∙ (skipped of_existlinks pagelinks_in (λ r. refl) t.existlinks rest5
      ∙ (skipped of_categorylinks pagelinks_in (λ r. refl) t.categorylinks rest6
      ∙ (skipped of_redirect pagelinks_in (λ r. refl) t.redirects rest7
      ∙ (skipped of_job pagelinks_in (λ r. refl) t.jobs rest8)))))
      ∙ (append-nil t.pagelinks))))

  templatelinks-back : filter_map templatelinks_in (rows_of_tables t) ≡ t.templatelinks
  templatelinks-back =
      skipped of_page templatelinks_in (λ r. refl) t.pages rest1
      ∙ (skipped of_revision templatelinks_in (λ r. refl) t.revisions rest2
      ∙ (skipped of_pagelinks templatelinks_in (λ r. refl) t.pagelinks rest3
      ∙ (found of_templatelinks templatelinks_in (λ r. refl) t.templatelinks rest4
      ∙ (ap (λ l. t.templatelinks ++ l) (skipped of_existlinks templatelinks_in (λ r. refl) t.existlinks rest5
      ∙ (skipped of_categorylinks templatelinks_in (λ r. refl) t.categorylinks rest6
      ∙ (skipped of_redirect templatelinks_in (λ r. refl) t.redirects rest7
      ∙ (skipped of_job templatelinks_in (λ r. refl) t.jobs rest8))))
      ∙ (append-nil t.templatelinks)))))

  existlinks-back : filter_map existlinks_in (rows_of_tables t) ≡ t.existlinks
  existlinks-back =
      skipped of_page existlinks_in (λ r. refl) t.pages rest1
      ∙ (skipped of_revision existlinks_in (λ r. refl) t.revisions rest2
      ∙ (skipped of_pagelinks existlinks_in (λ r. refl) t.pagelinks rest3
      ∙ (skipped of_templatelinks existlinks_in (λ r. refl) t.templatelinks rest4
      ∙ (found of_existlinks existlinks_in (λ r. refl) t.existlinks rest5
      ∙ (ap (λ l. t.existlinks ++ l) (skipped of_categorylinks existlinks_in (λ r. refl) t.categorylinks rest6
      ∙ (skipped of_redirect existlinks_in (λ r. refl) t.redirects rest7
      ∙ (skipped of_job existlinks_in (λ r. refl) t.jobs rest8)))
      ∙ (append-nil t.existlinks))))))

  categorylinks-back : filter_map category_in (rows_of_tables t) ≡ t.categorylinks
  categorylinks-back =
      skipped of_page category_in (λ r. refl) t.pages rest1
      ∙ (skipped of_revision category_in (λ r. refl) t.revisions rest2
      ∙ (skipped of_pagelinks category_in (λ r. refl) t.pagelinks rest3
      ∙ (skipped of_templatelinks category_in (λ r. refl) t.templatelinks rest4
      ∙ (skipped of_existlinks category_in (λ r. refl) t.existlinks rest5
      ∙ (found of_categorylinks category_in (λ r. refl) t.categorylinks rest6
      ∙ (ap (λ l. t.categorylinks ++ l) (skipped of_redirect category_in (λ r. refl) t.redirects rest7
      ∙ (skipped of_job category_in (λ r. refl) t.jobs rest8))
      ∙ (append-nil t.categorylinks)))))))

  redirects-back : filter_map redirect_in (rows_of_tables t) ≡ t.redirects
  redirects-back =
      skipped of_page redirect_in (λ r. refl) t.pages rest1
      ∙ (skipped of_revision redirect_in (λ r. refl) t.revisions rest2
      ∙ (skipped of_pagelinks redirect_in (λ r. refl) t.pagelinks rest3
      ∙ (skipped of_templatelinks redirect_in (λ r. refl) t.templatelinks rest4
      ∙ (skipped of_existlinks redirect_in (λ r. refl) t.existlinks rest5
      ∙ (skipped of_categorylinks redirect_in (λ r. refl) t.categorylinks rest6
      ∙ (found of_redirect redirect_in (λ r. refl) t.redirects rest7
      ∙ (ap (λ l. t.redirects ++ l) (skipped of_job redirect_in (λ r. refl) t.jobs rest8)
      ∙ (append-nil t.redirects))))))))

  jobs-back : filter_map job_in (rows_of_tables t) ≡ t.jobs
  jobs-back =
      skipped of_page job_in (λ r. refl) t.pages rest1
      ∙ (skipped of_revision job_in (λ r. refl) t.revisions rest2
      ∙ (skipped of_pagelinks job_in (λ r. refl) t.pagelinks rest3
      ∙ (skipped of_templatelinks job_in (λ r. refl) t.templatelinks rest4
      ∙ (skipped of_existlinks job_in (λ r. refl) t.existlinks rest5
      ∙ (skipped of_categorylinks job_in (λ r. refl) t.categorylinks rest6
      ∙ (skipped of_redirect job_in (λ r. refl) t.redirects rest7
      ∙ (found of_job job_in (λ r. refl) t.jobs rest8
      ∙ (append-nil t.jobs))))))))

  version-back : filter_map version_in (rows_of_tables t) ≡ decimal t.version ∷ []
  version-back =
      skipped of_page version_in (λ r. refl) t.pages rest1
      ∙ (skipped of_revision version_in (λ r. refl) t.revisions rest2
      ∙ (skipped of_pagelinks version_in (λ r. refl) t.pagelinks rest3
      ∙ (skipped of_templatelinks version_in (λ r. refl) t.templatelinks rest4
      ∙ (skipped of_existlinks version_in (λ r. refl) t.existlinks rest5
      ∙ (skipped of_categorylinks version_in (λ r. refl) t.categorylinks rest6
      ∙ (skipped of_redirect version_in (λ r. refl) t.redirects rest7
      ∙ (skipped of_job version_in (λ r. refl) t.jobs rest8)))))))

pub tables-back : (t : StoreTables) → t.version < 2 ^ 64 → tables_of_rows (rows_of_tables t) ≡ t
tables-back t fits = λ i. record {
  pages = pages-back t i;
  revisions = revisions-back t i;
  pagelinks = pagelinks-back t i;
  templatelinks = templatelinks-back t i;
  existlinks = existlinks-back t i;
  categorylinks = categorylinks-back t i;
  redirects = redirects-back t i;
  jobs = jobs-back t i;
  version = (ap (λ l. unwrap_or (option_and_then decimal_number (last_or None l)) 0) (version-back t) ∙ ap (λ o. unwrap_or o 0) (decimal_number-decimal t.version fits)) i;
}
