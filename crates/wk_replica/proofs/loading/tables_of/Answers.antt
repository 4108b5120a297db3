use Rattle.std.proofs.Common.{◌≡◌, ◌+◌, ◌++◌, ◌∷◌, [], List, map, take, sym, ap, ◌∙◌, arith}
use Rattle.std.proofs.lemmas.List.{take_more}
use Rattle.wk_table_rules.specs.Rows.{StoreTables}
use Rattle.wk_feed_rules.specs.Taking.{tables_of_rows}
use Rattle.wk_feed_lines.specs.Said.{row_of}
use Rattle.wk_feed_lines.specs.declared.line.FeedRow.{FeedRow}
use Rattle.wk_replica.specs.Loaded.{with_row_more}
use Rattle.wk_replica.proofs.RowFacts.{tables_more}
use Rattle.wk_replica.proofs.loading.tables_of.Goals as goal

pub rows-preserved : goal.rows-preserved
rows-preserved c =
    let rows = c.args.rows.now in
    let at = c.rows.row-index in
    let item = c.row-item.result in
    let grown : take (at + 1) rows ≡ take at rows ++ item ∷ [] = take_more rows at item (omega arith) ∙ ap (λ (x : FeedRow). take at rows ++ x ∷ []) (sym c.row-item.is) in
    c.in_ok-add_row.ensures
    ∙ (ap (λ (t : StoreTables). with_row_more t (row_of item)) c.rows.invariant
    ∙ (sym (tables_more (take at rows) item) ∙ ap (λ (l : List FeedRow). tables_of_rows (map row_of l)) (sym grown)))
