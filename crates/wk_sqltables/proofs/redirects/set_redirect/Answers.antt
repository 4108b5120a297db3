use Rattle.std.proofs.Common.{OnOk, Option, arith, sym, subst}
use Rattle.sqlite.specs.Held.{state}
use Rattle.sqlite.specs.State.{HasCleanDisk}
use Rattle.wk_text_rules.specs.Titles.{PageTitle}
use Rattle.wk_sqltables.specs.Members.{SetsRedirect}
use Rattle.wk_sqltables.proofs.Inside.{on_ok}
use Rattle.wk_sqltables.proofs.RedirectSets.{with_redirect, without_redirect}
use Rattle.wk_sqltables.proofs.redirects.set_redirect.Goals as goal

pub returns-in-Some-clause-made : goal.returns-in-Some-clause-made
returns-in-Some-clause-made g c clean =
    let old = state g.S.Store c.args.transaction.now.conn.now in
    let mid = state g.S.Store c.drop_redirect.new.transaction.conn.now in
    let new = state g.S.Store c.add_redirect.new.transaction.conn.now in
    let clean_mid : HasCleanDisk mid = omega (arith, c.add_redirect.ensures.survives.clean, clean) in
    subst (λ (r : Option PageTitle). OnOk c.add_redirect.result (SetsRedirect old new c.args.page r)) (sym c.in-Some.is)
    (on_ok c.add_redirect.result (c.add_redirect.ensures.made clean) (λ adds. with_redirect old mid new c.args.page c.in-Some.title (c.in_ok-drop_redirect.ensures.made clean_mid) adds))

pub returns-in-None-clause-made : goal.returns-in-None-clause-made
returns-in-None-clause-made g c clean =
    let old = state g.S.Store c.args.transaction.now.conn.now in
    let new = state g.S.Store c.drop_redirect.new.transaction.conn.now in
    subst (λ (r : Option PageTitle). SetsRedirect old new c.args.page r) (sym c.in-None.is) (without_redirect old new c.args.page (c.in_ok-drop_redirect.ensures.made clean))
