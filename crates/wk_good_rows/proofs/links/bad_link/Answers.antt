use Rattle.std.proofs.Common.{◌∙◌, ◌&&◌, take, Some, ap, sym, arith}
use Rattle.std.specs.List.{list_all}
use Rattle.std.proofs.lemmas.Bool.{and_parts}
use Rattle.wk_table_rules.specs.Rows.{LinkColumns}
use Rattle.wk_text_rules.specs.Titles.{is_page_title}
use Rattle.wk_table_rules.specs.GoodStore.{is_good_link, row_lt}
use Rattle.wk_good_rows.specs.FromPage.{is_from_page}
use Rattle.wk_good_rows.proofs.Judging.{Judged-bad, Judged-more, item-at}
use Rattle.wk_good_rows.proofs.Orders.{IsInOrder-more}
use Rattle.wk_good_rows.proofs.links.bad_link.Goals as goal

pub returns-then-not-branch : goal.returns-then-not-branch
returns-then-not-branch c =
    let tables = c.args.tables.now in
    let rows = c.args.rows.now in
    let i = c.loop-i.i in
    let item = item-at rows i (omega arith) in
    let is = c.in_ok-is_good_link.ensures item.0 item.1 in
    ap Some c.row_number.ensures ∙ Judged-bad (is_good_link tables) rows i item.0 (omega arith) item.1 (sym is ∙ c.if-not-branch.true) c.loop-i.invariant.0

pub loop-i-preserved : goal.loop-i-preserved
loop-i-preserved c =
    let tables = c.args.tables.now in
    let rows = c.args.rows.now in
    let i = c.loop-i.i in
    let item = item-at rows i (omega arith) in
    let row = item.0 in
    let good = sym (c.in_ok-is_good_link.ensures row item.1) ∙ c.if-not-branch.false in
    let parts = and_parts (is_from_page tables row && is_page_title row.target) (list_all (λ earlier. row_lt earlier.from earlier.target row.from row.target) (take i rows)) good in
    (Judged-more (is_good_link tables) rows i row (omega arith) item.1 good c.loop-i.invariant.0, IsInOrder-more (λ (a b : LinkColumns). row_lt a.from a.target b.from b.target) rows i row item.1 parts.1 (omega arith))
