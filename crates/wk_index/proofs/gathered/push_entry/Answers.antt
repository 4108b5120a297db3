use Rattle.std.proofs.Common.{◌≡◌, true, sym, subst}
use Rattle.wk_index.specs.Entries.{has_entry}
use Rattle.wk_index.proofs.GatheredLaws.{entry-last}
use Rattle.wk_index.proofs.gathered.push_entry.Goals as goal

pub returns-clause-there : goal.returns-clause-there
returns-clause-there c =
    subst (λ t. has_entry c.push.new.self.items (t, c.args.sortkey.now) c.args.page ≡ true) c.in_ok-category.ensures
    (subst (λ s. has_entry c.push.new.self.items (c.in_ok-category.category, s) c.args.page ≡ true) c.in_ok-sortkey.ensures
    (subst (λ l. has_entry l (c.in_ok-category.category, c.in_ok-sortkey.sortkey) c.args.page ≡ true) (sym c.in_ok-push.ensures.items)
    (entry-last c.args.entries.now.items (c.in_ok-category.category, c.in_ok-sortkey.sortkey) c.args.page)))
