use Rattle.std.proofs.Common.{◌≡◌, ℤ, ◌+◌, ◌<◌, length, Some, sym, ap, ap₂, ◌∙◌, arith, rules, to_z, of_z, w64}
use Rattle.std.specs.Option.{option_copied}
use Rattle.wk_tables.specs.LinkLists.{LinkLists, rows_of_lists}
use Rattle.wk_changes.specs.PageLinks.{with_more}
use Rattle.wk_changes.proofs.NumberedRows.{numbered, push-page}
use Rattle.wk_changes.proofs.links.LinkTables.of_pages.Goals as goal

pub loop-place-preserved : goal.loop-place-preserved
loop-place-preserved c =
    let stored = c.args.index.now.stored in
    let place = c.loop-place.place in
    let rows = c.rows-rows.result.now in
    let within : place < length stored = omega arith in
    let is : numbered stored (place + 1) ≡ Some rows = sym c.rows.ensures ∙ (ap option_copied c.unwrap.ensures ∙ ap Some (sym c.rows-rows.ensures)) in
    let same : to_z w64 (of_z w64 c.namespace_at.result) ≡ c.namespace_at.result = search rules in
    c.in_ok-push_page.ensures
    ∙ (ap₂ (λ (tables : LinkLists) (ns : ℤ). with_more tables (rows_of_lists (place + 1) ns rows)) c.loop-place.invariant (same ∙ c.namespace_at.ensures)
    ∙ push-page c.args.revs.now.history stored place rows within is)
