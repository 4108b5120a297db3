use Rattle.std.proofs.Common.{◌∙◌, ap, sym}
use Rattle.wk_table_rules.specs.Changes.{edited, with_page_rows}
use Rattle.wk_tables.specs.Edits.{edit_of}
use Rattle.wk_tables.proofs.tables.Tables.edit.Goals as goal

pub returns-in-SetRows-clause-tables : goal.returns-in-SetRows-clause-tables
returns-in-SetRows-clause-tables c =
    c.set_rows.ensures.tables ∙ ap (λ page. with_page_rows c.args.self.now.tables page c.in-SetRows.rows) c.from.ensures
    ∙ ap (λ edit. edited c.args.self.now.tables (edit_of edit)) (sym c.in-SetRows.is)
