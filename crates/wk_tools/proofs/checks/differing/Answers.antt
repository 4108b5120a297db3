use Rattle.std.proofs.Common.{ap, length, arith}
use Rattle.wk_wiki_laws.proofs.KeptStates.{few-pages}
use Rattle.wk_tools.proofs.Outdated.{found-after}
use Rattle.wk_tools.proofs.checks.differing.Goals as goal

pub overflow_cast-count : goal.overflow_cast-count
overflow_cast-count c =
    let few = few-pages c.args.live.now.state.history c.requires.history in
    let count = c.page_count-count.ensures in
    let same = ap (λ r. length r.history.pages) c.revs.ensures in
    omega (arith, few, count, same)

pub pages-preserved : goal.pages-preserved
pages-preserved c =
    found-after c.args.live.now.state c.pages.place c.title_at-title.result.now c.pages.found.items c.add_outdated.new.found.items c.title_at-title.ensures c.pages.invariant c.in_ok-add_outdated.ensures
