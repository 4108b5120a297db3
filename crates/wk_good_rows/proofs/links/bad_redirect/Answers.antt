use Rattle.std.proofs.Common.{◌∙◌, ◌&&◌, ltb, take, Some, ap, sym, arith}
use Rattle.std.specs.List.{list_all}
use Rattle.std.proofs.lemmas.Bool.{and_parts}
use Rattle.wk_table_rules.specs.Rows.{RedirectColumns}
use Rattle.wk_table_rules.specs.Changes.{has_page}
use Rattle.wk_text_rules.specs.Titles.{is_page_title}
use Rattle.wk_table_rules.specs.GoodStore.{is_good_redirect}
use Rattle.wk_good_rows.proofs.Judging.{Judged-bad, Judged-more, item-at}
use Rattle.wk_good_rows.proofs.Orders.{IsInOrder-more}
use Rattle.wk_good_rows.proofs.links.bad_redirect.Goals as goal

pub returns-then-not-branch : goal.returns-then-not-branch
returns-then-not-branch c =
    let tables = c.args.tables.now in
    let rows = c.args.rows.now in
    let i = c.loop-i.i in
    let item = item-at rows i (omega arith) in
    let is = c.in_ok-is_good_redirect.ensures item.0 item.1 in
    ap Some c.row_number.ensures ∙ Judged-bad (is_good_redirect tables) rows i item.0 (omega arith) item.1 (sym is ∙ c.if-not-branch.true) c.loop-i.invariant.0

pub loop-i-preserved : goal.loop-i-preserved
loop-i-preserved c =
    let tables = c.args.tables.now in
    let rows = c.args.rows.now in
    let i = c.loop-i.i in
    let item = item-at rows i (omega arith) in
    let row = item.0 in
    let good = sym (c.in_ok-is_good_redirect.ensures row item.1) ∙ c.if-not-branch.false in
    let parts = and_parts (has_page tables row.rd_from && is_page_title row.rd_title) (list_all (λ earlier. ltb earlier.rd_from row.rd_from) (take i rows)) good in
    (Judged-more (is_good_redirect tables) rows i row (omega arith) item.1 good c.loop-i.invariant.0, IsInOrder-more (λ (a b : RedirectColumns). ltb a.rd_from b.rd_from) rows i row item.1 parts.1 (omega arith))
