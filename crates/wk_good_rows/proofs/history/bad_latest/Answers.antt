use Rattle.std.proofs.Common.{◌∙◌, take, Some, ap, sym, arith}
use Rattle.wk_table_rules.specs.GoodStore.{first_bad, has_good_latest}
use Rattle.wk_good_rows.proofs.Judging.{Judged-bad, Judged-end, Judged-more}
use Rattle.wk_good_rows.proofs.Lasts.{latest-at}
use Rattle.wk_good_rows.proofs.history.bad_latest.Goals as goal

pub returns-then-not-is_latest : goal.returns-then-not-is_latest
returns-then-not-is_latest c =
    let tables = c.args.tables.now in
    let pages = c.as_slice-pages.result.now in
    let i = c.loop-i.i in
    let row = c.index-pages-i.result in
    let same = c.as_slice-pages.ensures.value ∙ ap (λ t. t.pages) c.tables.view_is in
    let is = latest-at tables c.args.last.now c.requires.ids c.requires.last pages same i row (take i pages) c.index-pages-i.is (omega arith) in
    ap Some c.row_number.ensures
    ∙ Judged-bad (has_good_latest tables) pages i row (omega arith) c.index-pages-i.is (is ∙ sym c.is_latest.ensures ∙ c.if-not-is_latest.true) c.loop-i.invariant
    ∙ ap (first_bad (has_good_latest tables)) same

pub loop-i-preserved : goal.loop-i-preserved
loop-i-preserved c =
    let tables = c.args.tables.now in
    let pages = c.as_slice-pages.result.now in
    let i = c.loop-i.i in
    let row = c.index-pages-i.result in
    let same = c.as_slice-pages.ensures.value ∙ ap (λ t. t.pages) c.tables.view_is in
    let is = latest-at tables c.args.last.now c.requires.ids c.requires.last pages same i row (take i pages) c.index-pages-i.is (omega arith) in
    Judged-more (has_good_latest tables) pages i row (omega arith) c.index-pages-i.is (is ∙ sym c.is_latest.ensures ∙ c.if-not-is_latest.false) c.loop-i.invariant

pub returns : goal.returns
returns c =
    let tables = c.args.tables.now in
    let same = c.as_slice-pages.ensures.value ∙ ap (λ t. t.pages) c.tables.view_is in
    Judged-end (has_good_latest tables) c.as_slice-pages.result.now c.loop-i.i (omega arith) c.loop-i.invariant ∙ ap (first_bad (has_good_latest tables)) same
