use Rattle.std.proofs.Common.{◌∙◌, ◌&&◌, take, Some, ap, sym, arith}
use Rattle.std.specs.List.{list_all}
use Rattle.std.proofs.lemmas.Bool.{and_parts}
use Rattle.wk_table_rules.specs.Rows.{CategoryColumns, category_title}
use Rattle.wk_table_rules.specs.Changes.{has_page}
use Rattle.wk_text_rules.specs.Titles.{is_normal}
use Rattle.wk_table_rules.specs.GoodStore.{is_good_category, row_lt}
use Rattle.wk_good_rows.proofs.Judging.{Judged-bad, Judged-more, item-at}
use Rattle.wk_good_rows.proofs.Orders.{IsInOrder-more}
use Rattle.wk_good_rows.proofs.links.bad_category.Goals as goal

pub returns-then-not-branch : goal.returns-then-not-branch
returns-then-not-branch c =
    let tables = c.args.tables.now in
    let rows = c.args.rows.now in
    let i = c.loop-i.i in
    let item = item-at rows i (omega arith) in
    let is = c.in_ok-is_good_category.ensures item.0 item.1 in
    ap Some c.row_number.ensures ∙ Judged-bad (is_good_category tables) rows i item.0 (omega arith) item.1 (sym is ∙ c.if-not-branch.true) c.loop-i.invariant.0

pub loop-i-preserved : goal.loop-i-preserved
loop-i-preserved c =
    let tables = c.args.tables.now in
    let rows = c.args.rows.now in
    let i = c.loop-i.i in
    let item = item-at rows i (omega arith) in
    let row = item.0 in
    let good = sym (c.in_ok-is_good_category.ensures row item.1) ∙ c.if-not-branch.false in
    let parts = and_parts (has_page tables row.cl_from && is_normal (category_title row.cl_to)) (list_all (λ earlier. row_lt earlier.cl_from (category_title earlier.cl_to) row.cl_from (category_title row.cl_to)) (take i rows)) good in
    (Judged-more (is_good_category tables) rows i row (omega arith) item.1 good c.loop-i.invariant.0, IsInOrder-more (λ (a b : CategoryColumns). row_lt a.cl_from (category_title a.cl_to) b.cl_from (category_title b.cl_to)) rows i row item.1 parts.1 (omega arith))
