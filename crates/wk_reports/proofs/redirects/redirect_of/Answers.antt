use Rattle.std.proofs.Common.{◌≡◌, Some, None, ap, sym, ◌∙◌}
use Rattle.wk_page_rules.specs.History.{page_number}
use Rattle.wk_page_rules.specs.PageRows.{PageRows}
use Rattle.wk_report_laws.proofs.Walks.{redirect-found, redirect-none}
use Rattle.wk_reports.proofs.redirects.redirect_of.Goals as goal

pub returns-in-Some : goal.returns-in-Some
returns-in-Some c =
    let number : page_number c.args.live.now.state.history c.args.title.now ≡ Some c.in-Some.page =
    sym (c.page.ensures ∙ ap (λ r. page_number r.history c.args.title.now) c.revs.ensures) ∙ c.in-Some.is in
    c.redirect_in.ensures ∙ (ap (λ (rows : PageRows). rows.redirect) c.rows_of.ensures ∙ sym (redirect-found c.args.live.now.state c.args.title.now c.in-Some.page number))

pub returns-in-None : goal.returns-in-None
returns-in-None c =
    let number : page_number c.args.live.now.state.history c.args.title.now ≡ None =
    sym (c.page.ensures ∙ ap (λ r. page_number r.history c.args.title.now) c.revs.ensures) ∙ c.in-None.is in
    sym (redirect-none c.args.live.now.state c.args.title.now number)
