use Rattle.std.proofs.Common.{◌≡◌, ap, ◌∙◌, subst}
use Rattle.std.specs.Prelude.{IfOk}
use Rattle.serde_json.specs.View.{view}
use Rattle.wk_text_rules.specs.Marked.{text_of}
use Rattle.wk_wiki_rules.specs.Passes.{shown_number}
use Rattle.wk_revs.specs.declared.standing.Standing.{Standing}
use Rattle.wk_answer_rules.specs.Pages.{PageShown, parse_entries}
use Rattle.wk_answer_rules.specs.Values.{reply_beside}
use Rattle.wk_answer.proofs.Shown.{number-shown, page-shown}
use Rattle.wk_answer.proofs.by_text.parsed_page.Goals as goal

pub returns : goal.returns
returns c =
    let state = c.args.live.now.state in
    let title = c.args.title.now in
    let number : c.unwrap_or.result ≡ shown_number state.history title =
    c.unwrap_or.ensures ∙ number-shown state.history title c.args.standing c.requires.standing c.requires.exists in
    let shown = page-shown state title c.unwrap_or.result c.args.standing.current c.text.result.now c.in_ok-rows.rows c.in_ok-draft.draft c.in_ok-draft.ensures number
    (ap (λ (s : Standing). s.current) c.requires.standing) (c.text.ensures ∙ ap text_of c.out.ensures) c.in_ok-rows.ensures.worlds in
    subst (λ (p : PageShown). IfOk c.parsed.result (λ v. view v ≡ (reply_beside (parse_entries p) c.args.point).value)) shown c.parsed.ensures
