use Rattle.std.proofs.Common.{sym, subst}
use Rattle.wk_table_rows.specs.Rising.{IsRising}
use Rattle.wk_tables.proofs.tables.Tables.page_place.Goals as goal

pub place_of-requires : goal.place_of-requires
place_of-requires c so = subst (IsRising (λ page. page.page_id)) (sym c.deref.ensures.value) (c.self.invariant.rising so)
