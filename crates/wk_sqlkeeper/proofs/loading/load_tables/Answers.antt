use Rattle.std.proofs.Common.{◌≡◌, ◌∙◌, Err, Ok, Result, IfOk, OnOk}
use Rattle.sqlite.specs.Held.{state}
use Rattle.wk_table_rules.specs.Rows.{StoreTables}
use Rattle.wk_sqltables.specs.Edits.{Keeps}
use Rattle.wk_sqltables.proofs.Changes.{on_err}
use Rattle.wk_sqlkeeper.specs.Kept.{IsInRange}
use Rattle.wk_sqlkeeper.proofs.Rests.{at_err}
use Rattle.wk_sqlkeeper.proofs.loading.load_tables.Goals as goal

pub returns-in_err-pages-clause-stays : goal.returns-in_err-pages-clause-stays
returns-in_err-pages-clause-stays g c clean_pages is_open =
    let last = at_err c.read_pages.result c.in_err-pages.was (c.read_pages.ensures.stays clean_pages is_open) in
    on_err c.from_residual.result (λ tables keeps. last tables keeps)

pub returns-in_err-revisions-clause-stays : goal.returns-in_err-revisions-clause-stays
returns-in_err-revisions-clause-stays g c clean_revisions is_open =
    let clean_pages = c.read_revisions.ensures.clean clean_revisions in
    let last = at_err c.read_revisions.result c.in_err-revisions.was (c.read_revisions.ensures.stays clean_revisions is_open) in
    on_err c.from_residual-in_err-revisions.result (λ tables keeps. last tables (c.in_ok-pages.ensures.kept clean_pages tables keeps))

pub returns-in_err-pagelinks-clause-stays : goal.returns-in_err-pagelinks-clause-stays
returns-in_err-pagelinks-clause-stays g c clean_pagelinks is_open =
    let clean_revisions = c.read_pagelinks.ensures.clean clean_pagelinks in
    let clean_pages = c.read_revisions.ensures.clean clean_revisions in
    let last = at_err c.read_pagelinks.result c.in_err-pagelinks.was (c.read_pagelinks.ensures.stays clean_pagelinks is_open) in
    on_err c.from_residual-in_err-pagelinks.result (λ tables keeps. last tables (c.in_ok-revisions.ensures.kept clean_revisions tables (c.in_ok-pages.ensures.kept clean_pages tables keeps)))

pub returns-in_err-templatelinks-clause-stays : goal.returns-in_err-templatelinks-clause-stays
returns-in_err-templatelinks-clause-stays g c clean_templatelinks is_open =
    let clean_pagelinks = c.read_templatelinks.ensures.clean clean_templatelinks in
    let clean_revisions = c.read_pagelinks.ensures.clean clean_pagelinks in
    let clean_pages = c.read_revisions.ensures.clean clean_revisions in
    let last = at_err c.read_templatelinks.result c.in_err-templatelinks.was (c.read_templatelinks.ensures.stays clean_templatelinks is_open) in
    on_err c.from_residual-in_err-templatelinks.result (λ tables keeps. last tables (c.in_ok-pagelinks.ensures.kept clean_pagelinks tables (c.in_ok-revisions.ensures.kept clean_revisions tables (c.in_ok-pages.ensures.kept clean_pages tables keeps))))

pub returns-in_err-existlinks-clause-stays : goal.returns-in_err-existlinks-clause-stays
returns-in_err-existlinks-clause-stays g c clean_existlinks is_open =
    let clean_templatelinks = c.read_existlinks.ensures.clean clean_existlinks in
    let clean_pagelinks = c.read_templatelinks.ensures.clean clean_templatelinks in
    let clean_revisions = c.read_pagelinks.ensures.clean clean_pagelinks in
    let clean_pages = c.read_revisions.ensures.clean clean_revisions in
    let last = at_err c.read_existlinks.result c.in_err-existlinks.was (c.read_existlinks.ensures.stays clean_existlinks is_open) in
    on_err c.from_residual-in_err-existlinks.result (λ tables keeps. last tables (c.in_ok-templatelinks.ensures.kept clean_templatelinks tables (c.in_ok-pagelinks.ensures.kept clean_pagelinks tables (c.in_ok-revisions.ensures.kept clean_revisions tables (c.in_ok-pages.ensures.kept clean_pages tables keeps)))))

pub returns-in_err-categorylinks-clause-stays : goal.returns-in_err-categorylinks-clause-stays
returns-in_err-categorylinks-clause-stays g c clean_categorylinks is_open =
    let clean_existlinks = c.read_categorylinks.ensures.clean clean_categorylinks in
    let clean_templatelinks = c.read_existlinks.ensures.clean clean_existlinks in
    let clean_pagelinks = c.read_templatelinks.ensures.clean clean_templatelinks in
    let clean_revisions = c.read_pagelinks.ensures.clean clean_pagelinks in
    let clean_pages = c.read_revisions.ensures.clean clean_revisions in
    let last = at_err c.read_categorylinks.result c.in_err-categorylinks.was (c.read_categorylinks.ensures.stays clean_categorylinks is_open) in
    on_err c.from_residual-in_err-categorylinks.result (λ tables keeps. last tables (c.in_ok-existlinks.ensures.kept clean_existlinks tables (c.in_ok-templatelinks.ensures.kept clean_templatelinks tables (c.in_ok-pagelinks.ensures.kept clean_pagelinks tables (c.in_ok-revisions.ensures.kept clean_revisions tables (c.in_ok-pages.ensures.kept clean_pages tables keeps))))))

pub returns-in_err-redirects-clause-stays : goal.returns-in_err-redirects-clause-stays
returns-in_err-redirects-clause-stays g c clean_redirects is_open =
    let clean_categorylinks = c.read_redirects.ensures.clean clean_redirects in
    let clean_existlinks = c.read_categorylinks.ensures.clean clean_categorylinks in
    let clean_templatelinks = c.read_existlinks.ensures.clean clean_existlinks in
    let clean_pagelinks = c.read_templatelinks.ensures.clean clean_templatelinks in
    let clean_revisions = c.read_pagelinks.ensures.clean clean_pagelinks in
    let clean_pages = c.read_revisions.ensures.clean clean_revisions in
    let last = at_err c.read_redirects.result c.in_err-redirects.was (c.read_redirects.ensures.stays clean_redirects is_open) in
    on_err c.from_residual-in_err-redirects.result (λ tables keeps. last tables (c.in_ok-categorylinks.ensures.kept clean_categorylinks tables (c.in_ok-existlinks.ensures.kept clean_existlinks tables (c.in_ok-templatelinks.ensures.kept clean_templatelinks tables (c.in_ok-pagelinks.ensures.kept clean_pagelinks tables (c.in_ok-revisions.ensures.kept clean_revisions tables (c.in_ok-pages.ensures.kept clean_pages tables keeps)))))))

pub returns-in_err-jobs-clause-stays : goal.returns-in_err-jobs-clause-stays
returns-in_err-jobs-clause-stays g c clean_jobs is_open =
    let clean_redirects = c.read_jobs.ensures.clean clean_jobs in
    let clean_categorylinks = c.read_redirects.ensures.clean clean_redirects in
    let clean_existlinks = c.read_categorylinks.ensures.clean clean_categorylinks in
    let clean_templatelinks = c.read_existlinks.ensures.clean clean_existlinks in
    let clean_pagelinks = c.read_templatelinks.ensures.clean clean_templatelinks in
    let clean_revisions = c.read_pagelinks.ensures.clean clean_pagelinks in
    let clean_pages = c.read_revisions.ensures.clean clean_revisions in
    let last = at_err c.read_jobs.result c.in_err-jobs.was (c.read_jobs.ensures.stays clean_jobs is_open) in
    on_err c.from_residual-in_err-jobs.result (λ tables keeps. last tables (c.in_ok-redirects.ensures.kept clean_redirects tables (c.in_ok-categorylinks.ensures.kept clean_categorylinks tables (c.in_ok-existlinks.ensures.kept clean_existlinks tables (c.in_ok-templatelinks.ensures.kept clean_templatelinks tables (c.in_ok-pagelinks.ensures.kept clean_pagelinks tables (c.in_ok-revisions.ensures.kept clean_revisions tables (c.in_ok-pages.ensures.kept clean_pages tables keeps))))))))

pub returns-in_err-version-clause-stays : goal.returns-in_err-version-clause-stays
returns-in_err-version-clause-stays g c clean_version is_open =
    let clean_jobs = c.read_version.ensures.clean clean_version in
    let clean_redirects = c.read_jobs.ensures.clean clean_jobs in
    let clean_categorylinks = c.read_redirects.ensures.clean clean_redirects in
    let clean_existlinks = c.read_categorylinks.ensures.clean clean_categorylinks in
    let clean_templatelinks = c.read_existlinks.ensures.clean clean_existlinks in
    let clean_pagelinks = c.read_templatelinks.ensures.clean clean_templatelinks in
    let clean_revisions = c.read_pagelinks.ensures.clean clean_pagelinks in
    let clean_pages = c.read_revisions.ensures.clean clean_revisions in
    let last = at_err c.read_version.result c.in_err-version.was (c.read_version.ensures.stays clean_version is_open) in
    on_err c.from_residual-in_err-version.result (λ tables keeps. last tables (c.in_ok-jobs.ensures.kept clean_jobs tables (c.in_ok-redirects.ensures.kept clean_redirects tables (c.in_ok-categorylinks.ensures.kept clean_categorylinks tables (c.in_ok-existlinks.ensures.kept clean_existlinks tables (c.in_ok-templatelinks.ensures.kept clean_templatelinks tables (c.in_ok-pagelinks.ensures.kept clean_pagelinks tables (c.in_ok-revisions.ensures.kept clean_revisions tables (c.in_ok-pages.ensures.kept clean_pages tables keeps)))))))))

on_each : {A E P : Type 0} (r : Result A E) → P → OnOk r P
on_each (Ok a) p = p
on_each (Err e) p = tt

pub returns-clause-kept : goal.returns-clause-kept
returns-clause-kept g c clean_version =
    let clean_jobs = c.read_version.ensures.clean clean_version in
    let clean_redirects = c.read_jobs.ensures.clean clean_jobs in
    let clean_categorylinks = c.read_redirects.ensures.clean clean_redirects in
    let clean_existlinks = c.read_categorylinks.ensures.clean clean_categorylinks in
    let clean_templatelinks = c.read_existlinks.ensures.clean clean_existlinks in
    let clean_pagelinks = c.read_templatelinks.ensures.clean clean_templatelinks in
    let clean_revisions = c.read_pagelinks.ensures.clean clean_pagelinks in
    let clean_pages = c.read_revisions.ensures.clean clean_revisions in
    on_each c.made.result (λ tables keeps. (c.in_ok-version.ensures.kept clean_version tables (c.in_ok-jobs.ensures.kept clean_jobs tables (c.in_ok-redirects.ensures.kept clean_redirects tables (c.in_ok-categorylinks.ensures.kept clean_categorylinks tables (c.in_ok-existlinks.ensures.kept clean_existlinks tables (c.in_ok-templatelinks.ensures.kept clean_templatelinks tables (c.in_ok-pagelinks.ensures.kept clean_pagelinks tables (c.in_ok-revisions.ensures.kept clean_revisions tables (c.in_ok-pages.ensures.kept clean_pages tables keeps))))))))))

pub returns-clause-stays : goal.returns-clause-stays
returns-clause-stays g c clean_version is_open =
    let clean_jobs = c.read_version.ensures.clean clean_version in
    let clean_redirects = c.read_jobs.ensures.clean clean_jobs in
    let clean_categorylinks = c.read_redirects.ensures.clean clean_redirects in
    let clean_existlinks = c.read_categorylinks.ensures.clean clean_categorylinks in
    let clean_templatelinks = c.read_existlinks.ensures.clean clean_existlinks in
    let clean_pagelinks = c.read_templatelinks.ensures.clean clean_templatelinks in
    let clean_revisions = c.read_pagelinks.ensures.clean clean_pagelinks in
    let clean_pages = c.read_revisions.ensures.clean clean_revisions in
    on_err c.made.result (λ tables keeps. (c.in_ok-version.ensures.kept clean_version tables (c.in_ok-jobs.ensures.kept clean_jobs tables (c.in_ok-redirects.ensures.kept clean_redirects tables (c.in_ok-categorylinks.ensures.kept clean_categorylinks tables (c.in_ok-existlinks.ensures.kept clean_existlinks tables (c.in_ok-templatelinks.ensures.kept clean_templatelinks tables (c.in_ok-pagelinks.ensures.kept clean_pagelinks tables (c.in_ok-revisions.ensures.kept clean_revisions tables (c.in_ok-pages.ensures.kept clean_pages tables keeps))))))))))

made_are : {A E : Type 0} (r : Result A E) (rows_of : A → StoreTables) (rows : StoreTables) (Given : StoreTables → Type 0) → IfOk r (λ made. rows_of made ≡ rows) → ((tables : StoreTables) → Given tables → IsInRange tables → rows ≡ tables)
    → IfOk r (λ made. (tables : StoreTables) → Given tables → IsInRange tables → rows_of made ≡ tables)
made_are (Ok a) rows_of rows Given is all = λ tables given range. is ∙ all tables given range
made_are (Err e) rows_of rows Given is all = tt

pub returns-clause-read : goal.returns-clause-read
returns-clause-read g c clean_version =
    let clean_jobs = c.read_version.ensures.clean clean_version in
    let clean_redirects = c.read_jobs.ensures.clean clean_jobs in
    let clean_categorylinks = c.read_redirects.ensures.clean clean_redirects in
    let clean_existlinks = c.read_categorylinks.ensures.clean clean_categorylinks in
    let clean_templatelinks = c.read_existlinks.ensures.clean clean_existlinks in
    let clean_pagelinks = c.read_templatelinks.ensures.clean clean_templatelinks in
    let clean_revisions = c.read_pagelinks.ensures.clean clean_pagelinks in
    let clean_pages = c.read_revisions.ensures.clean clean_revisions in
    made_are c.made.result (λ made. made.tables) _ (λ tables. Keeps (state g.S.Store c.args.connection.now) tables) c.made.ensures (λ tables keeps range.
    let keeps_revisions = c.in_ok-pages.ensures.kept clean_pages tables keeps in
    let keeps_pagelinks = c.in_ok-revisions.ensures.kept clean_revisions tables keeps_revisions in
    let keeps_templatelinks = c.in_ok-pagelinks.ensures.kept clean_pagelinks tables keeps_pagelinks in
    let keeps_existlinks = c.in_ok-templatelinks.ensures.kept clean_templatelinks tables keeps_templatelinks in
    let keeps_categorylinks = c.in_ok-existlinks.ensures.kept clean_existlinks tables keeps_existlinks in
    let keeps_redirects = c.in_ok-categorylinks.ensures.kept clean_categorylinks tables keeps_categorylinks in
    let keeps_jobs = c.in_ok-redirects.ensures.kept clean_redirects tables keeps_redirects in
    let keeps_version = c.in_ok-jobs.ensures.kept clean_jobs tables keeps_jobs in
    let pages = c.in_ok-pages.ensures.read clean_pages tables keeps range in
    let revisions = c.in_ok-revisions.ensures.read clean_revisions tables keeps_revisions range in
    let pagelinks = c.in_ok-pagelinks.ensures.read clean_pagelinks tables keeps_pagelinks range in
    let templatelinks = c.in_ok-templatelinks.ensures.read clean_templatelinks tables keeps_templatelinks range in
    let existlinks = c.in_ok-existlinks.ensures.read clean_existlinks tables keeps_existlinks range in
    let categorylinks = c.in_ok-categorylinks.ensures.read clean_categorylinks tables keeps_categorylinks range in
    let redirects = c.in_ok-redirects.ensures.read clean_redirects tables keeps_redirects range in
    let jobs = c.in_ok-jobs.ensures.read clean_jobs tables keeps_jobs range in
    let version = c.in_ok-version.ensures.read clean_version tables keeps_version range in
    λ i. record { pages = pages i; revisions = revisions i; pagelinks = pagelinks i; templatelinks = templatelinks i; existlinks = existlinks i; categorylinks = categorylinks i; redirects = redirects i; jobs = jobs i; version = version i })
