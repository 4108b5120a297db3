use Rattle.std.proofs.Common.{◌<◌, ◌++◌, List, length, take, get_or, sym, ap, ◌∙◌, arith}
use Rattle.std.proofs.lemmas.List.{length-take-le}
use Rattle.wk_table_rules.specs.Changes.{TableEdit}
use Rattle.wk_wiki_rules.specs.Jobs.{JobLists}
use Rattle.wk_wiki_rules.specs.Steps.{all_queued}
use Rattle.wk_wiki_rules.specs.States.{title_at}
use Rattle.wk_wiki_rules.specs.TableChanges.{refresh_edits}
use Rattle.wk_changes.proofs.RefreshEdits.{edits-more, queued-more, has-kept, next-within}
use Rattle.wk_changes.proofs.job_rows.refreshes_edits.Goals as goal

pub push_refresh-requires : goal.push_refresh-requires
push_refresh-requires c =
    let pages = c.args.pages.now in
    let short = length-take-le c.loop-page.page-index pages (omega arith) in
    let high = next-within c.args.jobs.now.lists (take c.loop-page.page-index pages) in
    omega (arith, short, high, c.loop-page.invariant.number, c.requires.numbers)

pub loop-page-preserved : goal.loop-page-preserved
loop-page-preserved c =
    let t = title_at c.args.revs.now.history in
    let lists = c.args.jobs.now.lists in
    let pages = c.args.pages.now in
    let i = c.loop-page.page-index in
    let within : i < length pages = omega arith in
    let done = all_queued lists (take i pages) in
    let page = get_or pages i 0 in
    record {
      edits = c.in_ok-number.ensures.edits done (sym c.loop-page.invariant.number) (has-kept t lists pages i 0 within c.requires.rising)
          ∙ (ap (λ (edits : List TableEdit). edits ++ refresh_edits done page (t page)) c.loop-page.invariant.edits ∙ sym (edits-more t lists pages i 0 within));
      number = c.in_ok-number.ensures.number done (sym c.loop-page.invariant.number) (has-kept t lists pages i 0 within c.requires.rising)
          ∙ ap (λ (queued : JobLists). queued.next) (sym (queued-more t lists pages i 0 within));
    }
