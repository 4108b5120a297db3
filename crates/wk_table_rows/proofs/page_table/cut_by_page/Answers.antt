use Rattle.std.proofs.Common.{◌≡◌, ◌∷◌, ◌-◌, ◌∙◌, refl, drop, length, map, reverse, ap, sym, subst, arith}
use Rattle.wk_table_rows.specs.PageTable.{IsCut}
use Rattle.wk_table_rows.specs.declared.page_table.Brought.TheVariants.{Loaded}
use Rattle.wk_table_rows.proofs.PageTableLaws.{IsCut-more, numbers-more}
use Rattle.wk_table_rows.proofs.page_table.cut_by_page.Goals as goal

pub loop-i-preserved : goal.loop-i-preserved
loop-i-preserved g c =
    let pages = c.args.pages.now in
    let i = c.loop-i.i in
    let page = c.row.inside.page_id in
    let old = c.args.rows.now.items in
    let new = c.take_end.new.rows.items in
    let behind = map (λ p. p.page_id) (drop (length pages - i) pages) in
    let row = c.index-pages-pages.result in
    let more = IsCut-more g.R.RowOf.row_of g.R.Numbered.number old c.loop-i.rows.items new c.in_ok-own.own.items c.loop-i.slots.items (record { page = page; rows = Loaded c.in_ok-own.own }) behind c.loop-i.invariant refl c.in_ok-own.ensures.rows c.in_ok-own.ensures.own in
    let numbers = numbers-more pages i row (omega arith) c.index-pages-pages.is ∙ ap (λ n. n ∷ behind) (sym (ap (λ r. r.page_id) c.row.view_is)) in
    subst (λ n. IsCut g.R.RowOf.row_of g.R.Numbered.number old new (reverse c.push.new.self.items) n) (sym numbers)
    (subst (λ s. IsCut g.R.RowOf.row_of g.R.Numbered.number old new (reverse s) (page ∷ behind)) (sym c.in_ok-push.ensures.items) more)

pub returns : goal.returns
returns g c =
    let pages = c.args.pages.now in
    let none : length pages - c.loop-i.i ≡ 0 = omega arith in
    subst (λ s. IsCut g.R.RowOf.row_of g.R.Numbered.number c.args.rows.now.items c.loop-i.rows.items s (map (λ page. page.page_id) pages)) (sym c.reverse.ensures.items)
    (subst (λ n. IsCut g.R.RowOf.row_of g.R.Numbered.number c.args.rows.now.items c.loop-i.rows.items (reverse c.loop-i.slots.items) (map (λ page. page.page_id) (drop n pages))) none c.loop-i.invariant)
