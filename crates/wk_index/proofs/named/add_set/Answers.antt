use Rattle.std.proofs.Common.{◌≡◌, true, None, sym, subst}
use Rattle.std.specs.BTreeMap.{get}
use Rattle.wk_text_rules.specs.Titles.{title_cmp}
use Rattle.wk_index.specs.Named.{has}
use Rattle.wk_index.proofs.NamedLaws.{title-new, title-there}
use Rattle.wk_index.proofs.named.add_set.Goals as goal

pub returns-clause-there : goal.returns-clause-there
returns-clause-there c = λ page there.
    subst (λ t. has c.insert.new.self t page ≡ true) c.in_ok-title.ensures
    (title-there c.args.named.now c.insert.new.self c.in_ok-title.title c.args.pages (λ q. c.in_ok-insert.ensures.updates.0 q) page there)

pub returns-clause-kept : goal.returns-clause-kept
returns-clause-kept c =
    title-new c.args.named.now c.insert.new.self c.in_ok-title.title c.args.pages
    (subst (λ t. get title_cmp c.args.named.now t ≡ None) (sym c.in_ok-title.ensures) c.requires) (λ q. c.in_ok-insert.ensures.updates.0 q)
