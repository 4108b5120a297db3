use Rattle.std.proofs.Common.{◌≡◌, ◌++◌, List, map, ap, ap₂, ◌∙◌, subst, rules}
use Rattle.std.specs.List.Sorted.{IsPermutation}
use Rattle.std.proofs.lemmas.List.Sorted.{IsNonDecreasingBy-from_sort_by_key}
use Rattle.wk_table_rules.specs.Rows.{JobColumns}
use Rattle.wk_wiki_rules.specs.Jobs.{JobLists, RefreshEntry}
use Rattle.wk_wiki_rules.specs.States.{title_at}
use Rattle.wk_wiki_rules.specs.TableChanges.{row_of_fan}
use Rattle.wk_wiki_laws.proofs.JobChanges.{row_of, rows_in}
use Rattle.wk_changes.proofs.SortedJobs.{sorted-rows}
use Rattle.wk_changes.proofs.all_tables.job_rows.Goals as goal

pub returns : goal.returns
returns c =
    let title_of = title_at c.args.revs.now.history in
    let lists = c.args.jobs.now.lists in
    let sorted = c.sort_unstable_by_key.new.self.items in
    let known = c.refreshes.view_is ∙ c.in_ok-refreshes.ensures in
    let all : c.push_fans.new.rows.items ≡ rows_in title_of lists =
    c.in_ok-push_fans.ensures
    ∙ ap₂ (λ (a b : List JobColumns). a ++ b)
    (c.in_ok-push_refreshes.ensures
    ∙ ap₂ (λ (a : List JobColumns) (jobs : List RefreshEntry). a ++ map (row_of title_of) jobs) c.new-rows.ensures.items
    (c.deref.ensures.value ∙ ap (λ (held : JobLists). held.refreshes) known))
    (ap (λ (held : JobLists). map row_of_fan held.fans) known) in
    let up = IsNonDecreasingBy-from_sort_by_key (λ (row : JobColumns). row.job_id) sorted c.sort_unstable_by_key.ensures.sorted (λ a r q k. search rules) in
    sorted-rows title_of lists sorted c.requires (subst (λ (rows : List JobColumns). IsPermutation rows sorted) all c.sort_unstable_by_key.ensures.permutation) up
