use Rattle.std.proofs.Common.{◌≡◌, ◌∙◌, arith, ap, subst, subst₂, map, List, Option}
use Rattle.sqlite.specs.Held.{state}
use Rattle.sqlite.specs.State.{HasCleanDisk}
use Rattle.wk_text_rules.specs.Titles.{PageTitle}
use Rattle.wk_page_rules.specs.PageRows.{Member, PageRows}
use Rattle.wk_table_rows.specs.Members.{member_of}
use Rattle.wk_sqltables.specs.declared.links.LinkTable.TheVariants.{Pagelinks, Templatelinks, Existlinks}
use Rattle.wk_sqltables.specs.LinkTables.{SetsLinks}
use Rattle.wk_sqltables.specs.Members.{SetsMembers, SetsRedirect}
use Rattle.wk_sqltables.proofs.Inside.{keeps_after, on_ok, survives_both}
use Rattle.wk_sqltables.proofs.RowSets.{sets_all}
use Rattle.wk_sqltables.proofs.all_rows.set_rows.Goals as goal

pub returns-clause-made : goal.returns-clause-made
returns-clause-made g c clean =
    let k4 : HasCleanDisk (state g.S.Store c.set_members.new.transaction.conn.now) = omega (arith, c.set_redirect.ensures.survives.clean, clean) in
    let k3 : HasCleanDisk (state g.S.Store c.set_links-3.new.transaction.conn.now) = omega (arith, c.set_members.ensures.survives.clean, k4) in
    let k2 : HasCleanDisk (state g.S.Store c.set_links-2.new.transaction.conn.now) = omega (arith, c.set_links-3.ensures.survives.clean, k3) in
    let k1 : HasCleanDisk (state g.S.Store c.set_links.new.transaction.conn.now) = omega (arith, c.set_links-2.ensures.survives.clean, k2) in
    let k0 : HasCleanDisk (state g.S.Store c.page_numbered.new.transaction.conn.now) = omega (arith, c.set_links.ensures.survives.clean, k1) in
    let s1 = state g.S.Store c.page_numbered.new.transaction.conn.now in
    let s2 = state g.S.Store c.set_links.new.transaction.conn.now in
    let s3 = state g.S.Store c.set_links-2.new.transaction.conn.now in
    let s4 = state g.S.Store c.set_links-3.new.transaction.conn.now in
    let s5 = state g.S.Store c.set_members.new.transaction.conn.now in
    let s6 = state g.S.Store c.set_redirect.new.transaction.conn.now in
    let page = c.args.page in
    let rows = c.args.rows.now in
    let namespace = c.in_ok-from.from.namespace in
    let page_is = c.in_ok-from.ensures.page in
    let links_are : c.deref.result.now ≡ rows.links = c.deref.ensures.value ∙ ap (λ (r : PageRows). r.links) c.rows.view_is in
    let templates_are : c.deref-2.result.now ≡ rows.templates = c.deref-2.ensures.value ∙ ap (λ (r : PageRows). r.templates) c.rows.view_is in
    let exists_are : c.deref-3.result.now ≡ rows.exists = c.deref-3.ensures.value ∙ ap (λ (r : PageRows). r.exists) c.rows.view_is in
    let members_are : map member_of c.deref-4.result.now ≡ rows.members = ap (map member_of) c.deref-4.ensures.value ∙ ap (λ (r : PageRows). r.members) c.rows.view_is in
    let redirect_is : c.rows.inside.redirect ≡ rows.redirect = ap (λ (r : PageRows). r.redirect) c.rows.view_is in
    let links = subst₂ (λ p (l : List PageTitle). SetsLinks Pagelinks s1 s2 p namespace l) page_is links_are (c.in_ok-set_links.ensures.made k1) in
    let templates = subst₂ (λ p (l : List PageTitle). SetsLinks Templatelinks s2 s3 p namespace l) page_is templates_are (c.in_ok-set_links-2.ensures.made k2) in
    let exists = subst₂ (λ p (l : List PageTitle). SetsLinks Existlinks s3 s4 p namespace l) page_is exists_are (c.in_ok-set_links-3.ensures.made k3) in
    let members = subst (λ (l : List Member). SetsMembers s4 s5 page l) members_are (c.in_ok-set_members.ensures.made k4) in
    on_ok c.set_redirect.result (c.set_redirect.ensures.made clean) (λ redirect rising tables holds has.
    sets_all s1 s2 s3 s4 s5 s6 page namespace rows links templates exists members (subst (λ (r : Option PageTitle). SetsRedirect s5 s6 page r) redirect_is redirect) rising tables
    (c.in_ok-from.ensures.made k0 tables holds) (c.in_ok-from.ensures.namespace k0 tables holds has))

pub returns-in_err-set_links-clause-kept : goal.returns-in_err-set_links-clause-kept
returns-in_err-set_links-clause-kept g c clean inside =
    let k0 : HasCleanDisk (state g.S.Store c.page_numbered.new.transaction.conn.now) = omega (arith, c.set_links.ensures.survives.clean, clean) in
    let i1 = c.in_ok-from.ensures.inside k0 inside in
    keeps_after _ _ _ (c.page_numbered.ensures.kept k0 inside) (c.set_links.ensures.kept clean i1)

pub returns-in_err-set_links-clause-survives : goal.returns-in_err-set_links-clause-survives
returns-in_err-set_links-clause-survives g c = survives_both _ _ _ (c.page_numbered.ensures.survives) c.set_links.ensures.survives

pub returns-in_err-set_links-2-clause-kept : goal.returns-in_err-set_links-2-clause-kept
returns-in_err-set_links-2-clause-kept g c clean inside =
    let k1 : HasCleanDisk (state g.S.Store c.set_links.new.transaction.conn.now) = omega (arith, c.set_links-2.ensures.survives.clean, clean) in
    let k0 : HasCleanDisk (state g.S.Store c.page_numbered.new.transaction.conn.now) = omega (arith, c.set_links.ensures.survives.clean, k1) in
    let i1 = c.in_ok-from.ensures.inside k0 inside in
    let i2 = c.in_ok-set_links.ensures.inside k1 i1 in
    keeps_after _ _ _ (keeps_after _ _ _ (c.page_numbered.ensures.kept k0 inside) (c.set_links.ensures.kept k1 i1)) (c.set_links-2.ensures.kept clean i2)

pub returns-in_err-set_links-2-clause-survives : goal.returns-in_err-set_links-2-clause-survives
returns-in_err-set_links-2-clause-survives g c = survives_both _ _ _ (survives_both _ _ _ (c.page_numbered.ensures.survives) c.set_links.ensures.survives) c.set_links-2.ensures.survives

pub returns-in_err-set_links-3-clause-kept : goal.returns-in_err-set_links-3-clause-kept
returns-in_err-set_links-3-clause-kept g c clean inside =
    let k2 : HasCleanDisk (state g.S.Store c.set_links-2.new.transaction.conn.now) = omega (arith, c.set_links-3.ensures.survives.clean, clean) in
    let k1 : HasCleanDisk (state g.S.Store c.set_links.new.transaction.conn.now) = omega (arith, c.set_links-2.ensures.survives.clean, k2) in
    let k0 : HasCleanDisk (state g.S.Store c.page_numbered.new.transaction.conn.now) = omega (arith, c.set_links.ensures.survives.clean, k1) in
    let i1 = c.in_ok-from.ensures.inside k0 inside in
    let i2 = c.in_ok-set_links.ensures.inside k1 i1 in
    let i3 = c.in_ok-set_links-2.ensures.inside k2 i2 in
    keeps_after _ _ _ (keeps_after _ _ _ (keeps_after _ _ _ (c.page_numbered.ensures.kept k0 inside) (c.set_links.ensures.kept k1 i1)) (c.set_links-2.ensures.kept k2 i2)) (c.set_links-3.ensures.kept clean i3)

pub returns-in_err-set_links-3-clause-survives : goal.returns-in_err-set_links-3-clause-survives
returns-in_err-set_links-3-clause-survives g c = survives_both _ _ _ (survives_both _ _ _ (survives_both _ _ _ (c.page_numbered.ensures.survives) c.set_links.ensures.survives) c.set_links-2.ensures.survives) c.set_links-3.ensures.survives

pub returns-in_err-set_members-clause-kept : goal.returns-in_err-set_members-clause-kept
returns-in_err-set_members-clause-kept g c clean inside =
    let k3 : HasCleanDisk (state g.S.Store c.set_links-3.new.transaction.conn.now) = omega (arith, c.set_members.ensures.survives.clean, clean) in
    let k2 : HasCleanDisk (state g.S.Store c.set_links-2.new.transaction.conn.now) = omega (arith, c.set_links-3.ensures.survives.clean, k3) in
    let k1 : HasCleanDisk (state g.S.Store c.set_links.new.transaction.conn.now) = omega (arith, c.set_links-2.ensures.survives.clean, k2) in
    let k0 : HasCleanDisk (state g.S.Store c.page_numbered.new.transaction.conn.now) = omega (arith, c.set_links.ensures.survives.clean, k1) in
    let i1 = c.in_ok-from.ensures.inside k0 inside in
    let i2 = c.in_ok-set_links.ensures.inside k1 i1 in
    let i3 = c.in_ok-set_links-2.ensures.inside k2 i2 in
    let i4 = c.in_ok-set_links-3.ensures.inside k3 i3 in
    keeps_after _ _ _ (keeps_after _ _ _ (keeps_after _ _ _ (keeps_after _ _ _ (c.page_numbered.ensures.kept k0 inside) (c.set_links.ensures.kept k1 i1)) (c.set_links-2.ensures.kept k2 i2)) (c.set_links-3.ensures.kept k3 i3)) (c.set_members.ensures.kept clean i4)

pub returns-in_err-set_members-clause-survives : goal.returns-in_err-set_members-clause-survives
returns-in_err-set_members-clause-survives g c = survives_both _ _ _ (survives_both _ _ _ (survives_both _ _ _ (survives_both _ _ _ (c.page_numbered.ensures.survives) c.set_links.ensures.survives) c.set_links-2.ensures.survives) c.set_links-3.ensures.survives) c.set_members.ensures.survives

pub returns-clause-kept : goal.returns-clause-kept
returns-clause-kept g c clean inside =
    let k4 : HasCleanDisk (state g.S.Store c.set_members.new.transaction.conn.now) = omega (arith, c.set_redirect.ensures.survives.clean, clean) in
    let k3 : HasCleanDisk (state g.S.Store c.set_links-3.new.transaction.conn.now) = omega (arith, c.set_members.ensures.survives.clean, k4) in
    let k2 : HasCleanDisk (state g.S.Store c.set_links-2.new.transaction.conn.now) = omega (arith, c.set_links-3.ensures.survives.clean, k3) in
    let k1 : HasCleanDisk (state g.S.Store c.set_links.new.transaction.conn.now) = omega (arith, c.set_links-2.ensures.survives.clean, k2) in
    let k0 : HasCleanDisk (state g.S.Store c.page_numbered.new.transaction.conn.now) = omega (arith, c.set_links.ensures.survives.clean, k1) in
    let i1 = c.in_ok-from.ensures.inside k0 inside in
    let i2 = c.in_ok-set_links.ensures.inside k1 i1 in
    let i3 = c.in_ok-set_links-2.ensures.inside k2 i2 in
    let i4 = c.in_ok-set_links-3.ensures.inside k3 i3 in
    let i5 = c.in_ok-set_members.ensures.inside k4 i4 in
    keeps_after _ _ _ (keeps_after _ _ _ (keeps_after _ _ _ (keeps_after _ _ _ (keeps_after _ _ _ (c.page_numbered.ensures.kept k0 inside) (c.set_links.ensures.kept k1 i1)) (c.set_links-2.ensures.kept k2 i2)) (c.set_links-3.ensures.kept k3 i3)) (c.set_members.ensures.kept k4 i4)) (c.set_redirect.ensures.kept clean i5)

pub returns-clause-survives : goal.returns-clause-survives
returns-clause-survives g c = survives_both _ _ _ (survives_both _ _ _ (survives_both _ _ _ (survives_both _ _ _ (survives_both _ _ _ (c.page_numbered.ensures.survives) c.set_links.ensures.survives) c.set_links-2.ensures.survives) c.set_links-3.ensures.survives) c.set_members.ensures.survives) c.set_redirect.ensures.survives

pub returns-clause-inside : goal.returns-clause-inside
returns-clause-inside g c clean =
    let k4 : HasCleanDisk (state g.S.Store c.set_members.new.transaction.conn.now) = omega (arith, c.set_redirect.ensures.survives.clean, clean) in
    let k3 : HasCleanDisk (state g.S.Store c.set_links-3.new.transaction.conn.now) = omega (arith, c.set_members.ensures.survives.clean, k4) in
    let k2 : HasCleanDisk (state g.S.Store c.set_links-2.new.transaction.conn.now) = omega (arith, c.set_links-3.ensures.survives.clean, k3) in
    let k1 : HasCleanDisk (state g.S.Store c.set_links.new.transaction.conn.now) = omega (arith, c.set_links-2.ensures.survives.clean, k2) in
    let k0 : HasCleanDisk (state g.S.Store c.page_numbered.new.transaction.conn.now) = omega (arith, c.set_links.ensures.survives.clean, k1) in
    on_ok c.set_redirect.result (c.set_redirect.ensures.inside clean) (λ later inside.
    let i1 = c.in_ok-from.ensures.inside k0 inside in
    let i2 = c.in_ok-set_links.ensures.inside k1 i1 in
    let i3 = c.in_ok-set_links-2.ensures.inside k2 i2 in
    let i4 = c.in_ok-set_links-3.ensures.inside k3 i3 in
    let i5 = c.in_ok-set_members.ensures.inside k4 i4 in
    later i5)
