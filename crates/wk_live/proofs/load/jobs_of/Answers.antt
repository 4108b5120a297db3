use Rattle.std.proofs.Common.{◌≡◌, ◌+◌, ◌≤◌, ◌^◌, true, false, eqb, List, length, refl, ap, sym, subst, ◌∙◌}
use Rattle.std.specs.Prelude.{IfOk}
use Rattle.std.specs.List.{range_with_len}
use Rattle.std.proofs.lemmas.Bool.{ne_eqb}
use Rattle.wk_page_rules.specs.Verdict.{max_pages}
use Rattle.wk_table_rules.specs.Rows.{PageColumns}
use Rattle.wk_wiki_rules.specs.Jobs.{JobLists}
use Rattle.wk_wiki_rules.specs.Steps.{all_queued, jobs_of_tables, reopened_jobs}
use Rattle.wk_wiki_rules.specs.Lives.{opened}
use Rattle.wk_live.proofs.LoadLaws.{first-opened, numbers-fit, pages-fit}
use Rattle.wk_live.proofs.load.jobs_of.Goals as goal

pub refreshed-requires-clause-few : goal.refreshed-requires-clause-few
refreshed-requires-clause-few c = subst (λ (pages : List PageColumns). length pages ≤ max_pages) (sym c.pages.ensures) (pages-fit c.args.tables.now.tables c.requires)

pub refreshed-requires-clause-numbers : goal.refreshed-requires-clause-numbers
refreshed-requires-clause-numbers c =
    let first : eqb c.args.tables.now.tables.version 1 ≡ true = ap (λ v. eqb v 1) (sym c.version.ensures ∙ c.if-version-eq1.true) in
    subst (λ (lists : JobLists). lists.next + length c.pages.result.now ≤ 2 ^ 63) (sym c.in_ok-jobs.ensures)
    (subst (λ (pages : List PageColumns). (reopened_jobs (jobs_of_tables c.args.tables.now.tables)).next + length pages ≤ 2 ^ 63) (sym c.pages.ensures)
    (numbers-fit c.args.tables.now.tables c.requires first))

pub returns-then-version-eq1 : goal.returns-then-version-eq1
returns-then-version-eq1 c =
    let tables = c.args.tables.now.tables in
    let first : eqb c.args.tables.now.tables.version 1 ≡ true = ap (λ v. eqb v 1) (sym c.version.ensures ∙ c.if-version-eq1.true) in
    let same : reopened_jobs (all_queued c.in_ok-jobs.jobs.lists (range_with_len 1 (length c.pages.result.now))) ≡ (opened c.args.tables.now.tables).jobs =
    ap (λ (lists : JobLists). reopened_jobs (all_queued lists (range_with_len 1 (length c.pages.result.now)))) c.in_ok-jobs.ensures
    ∙ (ap (λ (pages : List PageColumns). reopened_jobs (all_queued (reopened_jobs (jobs_of_tables tables)) (range_with_len 1 (length pages)))) c.pages.ensures
    ∙ first-opened tables c.requires first) in
    subst (λ (lists : JobLists). IfOk c.refreshed.result (λ after. after.lists ≡ lists)) same c.refreshed.ensures

pub returns : goal.returns
returns c =
    let tables = c.args.tables.now.tables in
    let other : eqb c.args.tables.now.tables.version 1 ≡ false = ne_eqb tables.version 1 (λ same. c.if-version-eq1.false (c.version.ensures ∙ same)) in
    let here : reopened_jobs (jobs_of_tables c.args.tables.now.tables) ≡ (opened c.args.tables.now.tables).jobs = rw other refl in
    c.in_ok-jobs.ensures ∙ here
