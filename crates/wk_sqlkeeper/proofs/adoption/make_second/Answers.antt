use Rattle.wk_sqltables.proofs.Inside.{on_ok, keeps_after}
use Rattle.wk_sqlkeeper.proofs.adoption.make_second.Goals as goal

pub returns-clause-made : goal.returns-clause-made
returns-clause-made g c clean =
    let clean_3 = c.make_site.ensures.clean clean in
    let clean_2 = c.make_job.ensures.clean clean_3 in
    let clean_1 = c.make_categorylinks.ensures.clean clean_2 in
    on_ok c.make_site.result (c.make_site.ensures.made clean) (λ made was. made (c.in_ok-make_job.ensures.made clean_3 (c.in_ok-make_categorylinks.ensures.made clean_2 (c.in_ok-make_existlinks.ensures.made clean_1 was))))

pub returns-clause-inside : goal.returns-clause-inside
returns-clause-inside g c clean =
    let clean_3 = c.make_site.ensures.clean clean in
    let clean_2 = c.make_job.ensures.clean clean_3 in
    let clean_1 = c.make_categorylinks.ensures.clean clean_2 in
    on_ok c.make_site.result (c.make_site.ensures.inside clean) (λ stays inside. stays (c.in_ok-make_job.ensures.inside clean_3 (c.in_ok-make_categorylinks.ensures.inside clean_2 (c.in_ok-make_existlinks.ensures.inside clean_1 inside))))

pub returns-in_err-make_categorylinks-clause-kept : goal.returns-in_err-make_categorylinks-clause-kept
returns-in_err-make_categorylinks-clause-kept g c clean inside =
    let clean_1 = c.make_categorylinks.ensures.clean clean in
    (keeps_after _ _ _ (c.make_existlinks.ensures.kept clean_1 inside) (c.make_categorylinks.ensures.kept clean (c.in_ok-make_existlinks.ensures.inside clean_1 inside)))

pub returns-in_err-make_categorylinks-clause-clean : goal.returns-in_err-make_categorylinks-clause-clean
returns-in_err-make_categorylinks-clause-clean g c clean =
    let clean_1 = c.make_categorylinks.ensures.clean clean in
    c.make_existlinks.ensures.clean clean_1

pub returns-in_err-make_job-clause-kept : goal.returns-in_err-make_job-clause-kept
returns-in_err-make_job-clause-kept g c clean inside =
    let clean_2 = c.make_job.ensures.clean clean in
    let clean_1 = c.make_categorylinks.ensures.clean clean_2 in
    (keeps_after _ _ _ (keeps_after _ _ _ (c.make_existlinks.ensures.kept clean_1 inside) (c.make_categorylinks.ensures.kept clean_2 (c.in_ok-make_existlinks.ensures.inside clean_1 inside))) (c.make_job.ensures.kept clean (c.in_ok-make_categorylinks.ensures.inside clean_2 (c.in_ok-make_existlinks.ensures.inside clean_1 inside))))

pub returns-in_err-make_job-clause-clean : goal.returns-in_err-make_job-clause-clean
returns-in_err-make_job-clause-clean g c clean =
    let clean_2 = c.make_job.ensures.clean clean in
    let clean_1 = c.make_categorylinks.ensures.clean clean_2 in
    c.make_existlinks.ensures.clean clean_1

pub returns-clause-kept : goal.returns-clause-kept
returns-clause-kept g c clean inside =
    let clean_3 = c.make_site.ensures.clean clean in
    let clean_2 = c.make_job.ensures.clean clean_3 in
    let clean_1 = c.make_categorylinks.ensures.clean clean_2 in
    (keeps_after _ _ _ (keeps_after _ _ _ (keeps_after _ _ _ (c.make_existlinks.ensures.kept clean_1 inside) (c.make_categorylinks.ensures.kept clean_2 (c.in_ok-make_existlinks.ensures.inside clean_1 inside))) (c.make_job.ensures.kept clean_3 (c.in_ok-make_categorylinks.ensures.inside clean_2 (c.in_ok-make_existlinks.ensures.inside clean_1 inside)))) (c.make_site.ensures.kept clean (c.in_ok-make_job.ensures.inside clean_3 (c.in_ok-make_categorylinks.ensures.inside clean_2 (c.in_ok-make_existlinks.ensures.inside clean_1 inside)))))

pub returns-clause-clean : goal.returns-clause-clean
returns-clause-clean g c clean =
    let clean_3 = c.make_site.ensures.clean clean in
    let clean_2 = c.make_job.ensures.clean clean_3 in
    let clean_1 = c.make_categorylinks.ensures.clean clean_2 in
    c.make_existlinks.ensures.clean clean_1
