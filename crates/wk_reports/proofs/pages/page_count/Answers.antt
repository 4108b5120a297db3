use Rattle.std.proofs.Common.{ap, length, sym, ◌∙◌, arith}
use Rattle.wk_wiki_laws.proofs.KeptStates.{few-pages}
use Rattle.wk_report_laws.proofs.Walks.{stored-length}
use Rattle.wk_reports.proofs.pages.page_count.Goals as goal

pub overflow_cast-result : goal.overflow_cast-result
overflow_cast-result c =
    let few = few-pages c.args.live.now.state.history c.requires.history in
    let count = c.page_count.ensures in
    let same = ap (λ r. length r.history.pages) c.revs.ensures in
    omega (arith, few, count, same)

pub returns : goal.returns
returns c = c.page_count.ensures ∙ (ap (λ r. length r.history.pages) c.revs.ensures ∙ sym (stored-length c.args.live.now.state))
