use Rattle.std.proofs.Common.{ap, sym, ◌∙◌}
use Rattle.wk_index.specs.Entries.{lists_entry}
use Rattle.wk_index.proofs.EntryLaws.{entry-spares}
use Rattle.wk_index.proofs.entries.drop_entry.Goals as goal

pub returns-then-not-has_entry : goal.returns-then-not-has_entry
returns-then-not-has_entry c =
    entry-spares c.args.rows.now c.args.entries.now.keys c.remove.new.self.keys (c.args.entry.now.category, c.args.entry.now.sortkey) c.args.entry.now.page (λ q. c.remove.ensures.updates.0 q)
    (ap (λ k. lists_entry c.args.rows.now (k.category, k.sortkey)) (sym c.entry.view_is) ∙ sym c.has_entry.ensures ∙ c.if-not-has_entry.true)
