use Rattle.std.proofs.Common.{◌≡◌, true, subst}
use Rattle.wk_index.specs.Entries.{has_entry}
use Rattle.wk_index.proofs.EntryLaws.{entry-added, entry-kept}
use Rattle.wk_index.proofs.entries.add_entry.Goals as goal

pub returns-clause-there : goal.returns-clause-there
returns-clause-there c =
    subst (λ t. has_entry c.insert.new.self.keys (t, c.args.sortkey.now) c.args.page ≡ true) c.in_ok-category.ensures
    (subst (λ s. has_entry c.insert.new.self.keys (c.in_ok-category.category, s) c.args.page ≡ true) c.in_ok-sortkey.ensures
    (entry-added c.args.entries.now.keys c.insert.new.self.keys (c.in_ok-category.category, c.in_ok-sortkey.sortkey) c.args.page (λ q. c.in_ok-insert.ensures.updates.0 q)))

pub returns-clause-kept : goal.returns-clause-kept
returns-clause-kept c = entry-kept c.args.entries.now.keys c.insert.new.self.keys (c.in_ok-category.category, c.in_ok-sortkey.sortkey) c.args.page (λ q. c.in_ok-insert.ensures.updates.0 q)
