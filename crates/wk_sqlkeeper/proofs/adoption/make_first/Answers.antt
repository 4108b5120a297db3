use Rattle.wk_sqltables.proofs.Inside.{on_ok, keeps_after}
use Rattle.wk_sqlkeeper.proofs.Makings.{on_each}
use Rattle.wk_sqlkeeper.proofs.adoption.make_first.Goals as goal

pub returns-clause-made : goal.returns-clause-made
returns-clause-made g c clean =
    let clean_3 = c.make_templatelinks.ensures.clean clean in
    let clean_2 = c.make_pagelinks.ensures.clean clean_3 in
    let clean_1 = c.make_revision.ensures.clean clean_2 in
    on_ok c.make_templatelinks.result (c.make_templatelinks.ensures.made clean) (λ made was. made (c.in_ok-make_pagelinks.ensures.made clean_3 (c.in_ok-make_revision.ensures.made clean_2 (c.in_ok-make_page.ensures.made clean_1 was))))

pub returns-clause-inside : goal.returns-clause-inside
returns-clause-inside g c clean =
    let clean_3 = c.make_templatelinks.ensures.clean clean in
    let clean_2 = c.make_pagelinks.ensures.clean clean_3 in
    let clean_1 = c.make_revision.ensures.clean clean_2 in
    on_ok c.make_templatelinks.result (c.make_templatelinks.ensures.inside clean) (λ stays inside. stays (c.in_ok-make_pagelinks.ensures.inside clean_3 (c.in_ok-make_revision.ensures.inside clean_2 (c.in_ok-make_page.ensures.inside clean_1 inside))))

pub returns-clause-never : goal.returns-clause-never
returns-clause-never g c clean inside =
    let clean_3 = c.make_templatelinks.ensures.clean clean in
    let clean_2 = c.make_pagelinks.ensures.clean clean_3 in
    let clean_1 = c.make_revision.ensures.clean clean_2 in
    on_each c.make_templatelinks.result (c.in_ok-make_page.ensures.never clean_1 inside)

pub returns-in_err-make_revision-clause-kept : goal.returns-in_err-make_revision-clause-kept
returns-in_err-make_revision-clause-kept g c clean inside =
    let clean_1 = c.make_revision.ensures.clean clean in
    (keeps_after _ _ _ (c.make_page.ensures.kept clean_1 inside) (c.make_revision.ensures.kept clean (c.in_ok-make_page.ensures.inside clean_1 inside)))

pub returns-in_err-make_revision-clause-clean : goal.returns-in_err-make_revision-clause-clean
returns-in_err-make_revision-clause-clean g c clean =
    let clean_1 = c.make_revision.ensures.clean clean in
    c.make_page.ensures.clean clean_1

pub returns-in_err-make_pagelinks-clause-kept : goal.returns-in_err-make_pagelinks-clause-kept
returns-in_err-make_pagelinks-clause-kept g c clean inside =
    let clean_2 = c.make_pagelinks.ensures.clean clean in
    let clean_1 = c.make_revision.ensures.clean clean_2 in
    (keeps_after _ _ _ (keeps_after _ _ _ (c.make_page.ensures.kept clean_1 inside) (c.make_revision.ensures.kept clean_2 (c.in_ok-make_page.ensures.inside clean_1 inside))) (c.make_pagelinks.ensures.kept clean (c.in_ok-make_revision.ensures.inside clean_2 (c.in_ok-make_page.ensures.inside clean_1 inside))))

pub returns-in_err-make_pagelinks-clause-clean : goal.returns-in_err-make_pagelinks-clause-clean
returns-in_err-make_pagelinks-clause-clean g c clean =
    let clean_2 = c.make_pagelinks.ensures.clean clean in
    let clean_1 = c.make_revision.ensures.clean clean_2 in
    c.make_page.ensures.clean clean_1

pub returns-clause-kept : goal.returns-clause-kept
returns-clause-kept g c clean inside =
    let clean_3 = c.make_templatelinks.ensures.clean clean in
    let clean_2 = c.make_pagelinks.ensures.clean clean_3 in
    let clean_1 = c.make_revision.ensures.clean clean_2 in
    (keeps_after _ _ _ (keeps_after _ _ _ (keeps_after _ _ _ (c.make_page.ensures.kept clean_1 inside) (c.make_revision.ensures.kept clean_2 (c.in_ok-make_page.ensures.inside clean_1 inside))) (c.make_pagelinks.ensures.kept clean_3 (c.in_ok-make_revision.ensures.inside clean_2 (c.in_ok-make_page.ensures.inside clean_1 inside)))) (c.make_templatelinks.ensures.kept clean (c.in_ok-make_pagelinks.ensures.inside clean_3 (c.in_ok-make_revision.ensures.inside clean_2 (c.in_ok-make_page.ensures.inside clean_1 inside)))))

pub returns-clause-clean : goal.returns-clause-clean
returns-clause-clean g c clean =
    let clean_3 = c.make_templatelinks.ensures.clean clean in
    let clean_2 = c.make_pagelinks.ensures.clean clean_3 in
    let clean_1 = c.make_revision.ensures.clean clean_2 in
    c.make_page.ensures.clean clean_1
