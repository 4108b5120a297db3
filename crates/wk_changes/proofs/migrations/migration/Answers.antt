use Rattle.std.proofs.Common.{◌≡◌, ℕ, ◌<◌, ◌≤◌, ◌++◌, ◌∷◌, [], List, eqb, true, map, sym, ap, ◌∙◌, subst, arith}
use Rattle.std.specs.Prelude.{AllPairs}
use Rattle.std.specs.List.{range_with_len}
use Rattle.std.proofs.lemmas.Bool.{eq-eqb}
use Rattle.wk_page_rules.specs.Verdict.{max_pages}
use Rattle.wk_tables.specs.Edits.{edit_of}
use Rattle.wk_tables.specs.declared.change.RowEdit.{RowEdit}
use Rattle.wk_tables.specs.declared.change.RowEdit.TheVariants.{SetVersion}
use Rattle.wk_changes.proofs.OldStores.{few, numbers-fit, migrated}
use Rattle.wk_changes.proofs.RefreshEdits.{numbers-rise}
use Rattle.wk_changes.proofs.migrations.migration.Goals as goal

pub page_numbers-requires : goal.page_numbers-requires
page_numbers-requires c =
    let most = few c.args.tables.now.tables c.requires c.in_ok-revs.revs.history c.in_ok-revs.ensures in
    omega (arith, most, c.page_count.ensures)

pub refreshes_edits-requires-clause-rising : goal.refreshes_edits-requires-clause-rising
refreshes_edits-requires-clause-rising c =
    subst (λ (pages : List ℕ). AllPairs (λ (a b : ℕ). a < b) pages) (sym (c.deref.ensures.value ∙ c.in_ok-pages.ensures)) (numbers-rise 1 c.page_count.result)

pub refreshes_edits-requires-clause-numbers : goal.refreshes_edits-requires-clause-numbers
refreshes_edits-requires-clause-numbers c =
    let most = few c.args.tables.now.tables c.requires c.in_ok-revs.revs.history c.in_ok-revs.ensures in
    let small : c.page_count.result ≤ max_pages = omega (arith, most, c.page_count.ensures) in
    numbers-fit c.args.tables.now.tables c.requires c.in_ok-jobs.jobs.lists c.deref.result.now c.page_count.result c.in_ok-jobs.ensures
    (c.deref.ensures.value ∙ c.in_ok-pages.ensures) small

pub returns : goal.returns
returns c =
    let tables = c.args.tables.now.tables in
    let refreshes = c.in_ok-refreshes.refreshes.items in
    let old : eqb tables.version 1 ≡ true = eq-eqb tables.version 1 (sym c.version.ensures ∙ c.if-version-ne1.false) in
    let listed = c.deref.ensures.value ∙ (c.in_ok-pages.ensures ∙ ap (range_with_len 1) c.page_count.ensures) in
    ap (map edit_of)
    (c.in_ok-append.ensures.items
    ∙ ap (λ (edits : List RowEdit). edits ++ refreshes) (c.in_ok-push.ensures.items ∙ ap (λ (edits : List RowEdit). edits ++ SetVersion 2 ∷ []) c.new-edits.ensures.items))
    ∙ migrated tables c.requires c.in_ok-revs.revs.history c.in_ok-jobs.jobs.lists c.deref.result.now (map edit_of refreshes) old c.in_ok-revs.ensures c.in_ok-jobs.ensures
    listed c.in_ok-refreshes.ensures
