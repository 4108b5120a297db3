use Rattle.std.proofs.Common.{◌∙◌, ltb, ap, arith, rules}
use Rattle.std.specs.List.{position_or_len}
use Rattle.wk_table_rows.proofs.PageRowLaws.{rows-brought}
use Rattle.wk_table_rows.proofs.page_table.set_in_rows.Goals as goal

pub returns-clause-rows : goal.returns-clause-rows
returns-clause-rows g c =
    rows-brought g.R.Numbered.number c.args.page c.args.rows.now.items c.take_out.new.rows.items c.push_items.new.rows.items c.bring_forward.new.rows.items _ c.place_behind-place.result c.len-end.result
    c.take_out.ensures.rows (c.place_behind-place.ensures.place ∙ ap (position_or_len (λ row. ltb c.args.page (g.R.Numbered.number row))) c.deref.ensures.value) (omega arith) (omega (arith, c.place_behind-place.ensures.within, c.deref.ensures.len)) (search rules) c.bring_forward.ensures.rows
