use Rattle.wk_sqltables.proofs.Inside.{on_ok, keeps_after}
use Rattle.wk_sqlkeeper.proofs.Makings.{on_each}
use Rattle.wk_sqlkeeper.proofs.adoption.make_all.Goals as goal

pub returns-clause-made : goal.returns-clause-made
returns-clause-made g c clean =
    let clean_3 = c.make_site_row.ensures.clean clean in
    let clean_2 = c.make_redirect.ensures.clean clean_3 in
    let clean_1 = c.make_second.ensures.clean clean_2 in
    on_ok c.make_site_row.result (c.make_site_row.ensures.made clean) (λ made was. made (c.in_ok-make_redirect.ensures.made clean_3 (c.in_ok-make_second.ensures.made clean_2 (c.in_ok-make_first.ensures.made clean_1 was))))

pub returns-clause-inside : goal.returns-clause-inside
returns-clause-inside g c clean =
    let clean_3 = c.make_site_row.ensures.clean clean in
    let clean_2 = c.make_redirect.ensures.clean clean_3 in
    let clean_1 = c.make_second.ensures.clean clean_2 in
    on_ok c.make_site_row.result (c.make_site_row.ensures.inside clean) (λ stays inside. stays (c.in_ok-make_redirect.ensures.inside clean_3 (c.in_ok-make_second.ensures.inside clean_2 (c.in_ok-make_first.ensures.inside clean_1 inside))))

pub returns-clause-never : goal.returns-clause-never
returns-clause-never g c clean inside =
    let clean_3 = c.make_site_row.ensures.clean clean in
    let clean_2 = c.make_redirect.ensures.clean clean_3 in
    let clean_1 = c.make_second.ensures.clean clean_2 in
    on_each c.make_site_row.result (c.in_ok-make_first.ensures.never clean_1 inside)

pub returns-in_err-make_second-clause-kept : goal.returns-in_err-make_second-clause-kept
returns-in_err-make_second-clause-kept g c clean inside =
    let clean_1 = c.make_second.ensures.clean clean in
    (keeps_after _ _ _ (c.make_first.ensures.kept clean_1 inside) (c.make_second.ensures.kept clean (c.in_ok-make_first.ensures.inside clean_1 inside)))

pub returns-in_err-make_second-clause-clean : goal.returns-in_err-make_second-clause-clean
returns-in_err-make_second-clause-clean g c clean =
    let clean_1 = c.make_second.ensures.clean clean in
    c.make_first.ensures.clean clean_1

pub returns-in_err-make_redirect-clause-kept : goal.returns-in_err-make_redirect-clause-kept
returns-in_err-make_redirect-clause-kept g c clean inside =
    let clean_2 = c.make_redirect.ensures.clean clean in
    let clean_1 = c.make_second.ensures.clean clean_2 in
    (keeps_after _ _ _ (keeps_after _ _ _ (c.make_first.ensures.kept clean_1 inside) (c.make_second.ensures.kept clean_2 (c.in_ok-make_first.ensures.inside clean_1 inside))) (c.make_redirect.ensures.kept clean (c.in_ok-make_second.ensures.inside clean_2 (c.in_ok-make_first.ensures.inside clean_1 inside))))

pub returns-in_err-make_redirect-clause-clean : goal.returns-in_err-make_redirect-clause-clean
returns-in_err-make_redirect-clause-clean g c clean =
    let clean_2 = c.make_redirect.ensures.clean clean in
    let clean_1 = c.make_second.ensures.clean clean_2 in
    c.make_first.ensures.clean clean_1

pub returns-clause-kept : goal.returns-clause-kept
returns-clause-kept g c clean inside =
    let clean_3 = c.make_site_row.ensures.clean clean in
    let clean_2 = c.make_redirect.ensures.clean clean_3 in
    let clean_1 = c.make_second.ensures.clean clean_2 in
    (keeps_after _ _ _ (keeps_after _ _ _ (keeps_after _ _ _ (c.make_first.ensures.kept clean_1 inside) (c.make_second.ensures.kept clean_2 (c.in_ok-make_first.ensures.inside clean_1 inside))) (c.make_redirect.ensures.kept clean_3 (c.in_ok-make_second.ensures.inside clean_2 (c.in_ok-make_first.ensures.inside clean_1 inside)))) (c.make_site_row.ensures.kept clean (c.in_ok-make_redirect.ensures.inside clean_3 (c.in_ok-make_second.ensures.inside clean_2 (c.in_ok-make_first.ensures.inside clean_1 inside)))))

pub returns-clause-clean : goal.returns-clause-clean
returns-clause-clean g c clean =
    let clean_3 = c.make_site_row.ensures.clean clean in
    let clean_2 = c.make_redirect.ensures.clean clean_3 in
    let clean_1 = c.make_second.ensures.clean clean_2 in
    c.make_first.ensures.clean clean_1
