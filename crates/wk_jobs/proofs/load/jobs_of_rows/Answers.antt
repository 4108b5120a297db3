use Rattle.std.proofs.Common.{◌≡◌, ◌≤◌, ℕ, Option, ap, sym, ◌∙◌, subst}
use Rattle.std.specs.HashMap.{get}
use Rattle.wk_text_rules.specs.Titles.{title_eq}
use Rattle.wk_page_rules.specs.History.{page_number}
use Rattle.wk_table_rules.specs.GoodStore.{has_good_id, has_good_title}
use Rattle.wk_table_rules.specs.Stored.{history_of}
use Rattle.wk_table_laws.specs.EachGood.{EachGood}
use Rattle.wk_table_laws.proofs.FirstBad.{KeepsRules-from_good}
use Rattle.wk_wiki_rules.specs.Jobs.{JobLists}
use Rattle.wk_jobs.specs.Loaded.{CanBeFan, CanBeRefresh, number_in, jobs_so_far, with_row}
use Rattle.wk_jobs.proofs.Loaded.{all-rows, read-at, row-added, row-bound, row-fan, row-next, row-refresh}
use Rattle.wk_jobs.proofs.load.jobs_of_rows.Goals as goal

pub page_numbers-requires-clause-ids : goal.page_numbers-requires-clause-ids
page_numbers-requires-clause-ids c = subst (EachGood has_good_id) (sym c.pages.ensures) (KeepsRules-from_good c.args.tables.now.tables c.requires.good).ids

pub page_numbers-requires-clause-titles : goal.page_numbers-requires-clause-titles
page_numbers-requires-clause-titles c = subst (EachGood has_good_title) (sym c.pages.ensures) (KeepsRules-from_good c.args.tables.now.tables c.requires.good).titles

pub add_row-requires-clause-next : goal.add_row-requires-clause-next
add_row-requires-clause-next c =
    let tables = c.args.tables.now.tables in
    let row = c.row-item.result in
    let there = read-at c.args.rows.now tables.jobs c.rows.row-index row c.requires.rows c.rows-test.true c.row-item.is in
    subst (λ (lists : JobLists). lists.next ≤ row.job_id) (sym c.rows.invariant) (row-next tables c.requires.good c.rows.row-index row there)

pub add_row-requires-clause-bound : goal.add_row-requires-clause-bound
add_row-requires-clause-bound c =
    let tables = c.args.tables.now.tables in
    let there = read-at c.args.rows.now tables.jobs c.rows.row-index c.row-item.result c.requires.rows c.rows-test.true c.row-item.is in
    row-bound tables c.requires.good c.rows.row-index c.row-item.result there

pub add_row-requires-clause-refresh : goal.add_row-requires-clause-refresh
add_row-requires-clause-refresh c = λ refresh.
    let tables = c.args.tables.now.tables in
    let row = c.row-item.result in
    let there = read-at c.args.rows.now tables.jobs c.rows.row-index row c.requires.rows c.rows-test.true c.row-item.is in
    let number : get title_eq c.in_ok-numbers.numbers row.job_title ≡ page_number (history_of tables) row.job_title =
    c.in_ok-numbers.ensures row.job_title ∙ ap (λ pages. number_in pages row.job_title) c.pages.ensures in
    subst (CanBeRefresh (get title_eq c.in_ok-numbers.numbers row.job_title)) (sym c.rows.invariant)
    (subst (λ (o : Option ℕ). CanBeRefresh o (jobs_so_far tables c.rows.row-index)) (sym number) (row-refresh tables c.requires.good c.rows.row-index row there refresh))

pub add_row-requires-clause-fan : goal.add_row-requires-clause-fan
add_row-requires-clause-fan c = λ other.
    let tables = c.args.tables.now.tables in
    let there = read-at c.args.rows.now tables.jobs c.rows.row-index c.row-item.result c.requires.rows c.rows-test.true c.row-item.is in
    subst (CanBeFan c.row-item.result) (sym c.rows.invariant) (row-fan tables c.requires.good c.rows.row-index c.row-item.result there other)

pub rows-preserved : goal.rows-preserved
rows-preserved c =
    let tables = c.args.tables.now.tables in
    let row = c.row-item.result in
    let there = read-at c.args.rows.now tables.jobs c.rows.row-index row c.requires.rows c.rows-test.true c.row-item.is in
    let number : get title_eq c.in_ok-numbers.numbers row.job_title ≡ page_number (history_of tables) row.job_title =
    c.in_ok-numbers.ensures row.job_title ∙ ap (λ pages. number_in pages row.job_title) c.pages.ensures in
    c.in_ok-add_row.ensures ∙ ap (λ (o : Option ℕ). with_row o row c.rows.jobs.lists) number
    ∙ ap (with_row (page_number (history_of tables) row.job_title) row) c.rows.invariant
    ∙ row-added tables c.requires.good c.rows.row-index row there

pub returns : goal.returns
returns c = all-rows c.args.tables.now.tables c.args.rows.now c.rows.row-index c.rows.jobs.lists c.requires.rows c.rows-test.false c.rows.invariant
