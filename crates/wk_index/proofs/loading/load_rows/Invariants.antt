use Rattle.std.proofs.Common.{◌≡◌, length, map, take}
use Rattle.wk_table_rules.specs.Stored.{rows_of_page}
use Rattle.wk_index.proofs.loading.load_rows.Given as goal

abbrev pub invariant-loop-page : goal.invariant-loop-page
invariant-loop-page l = (l.loading ≡ map (λ page. rows_of_page l.rows page.page_id) (take l.page-index l.pages)) × (length l.loading ≡ l.page-index)
