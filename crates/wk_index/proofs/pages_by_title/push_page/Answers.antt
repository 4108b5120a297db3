use Rattle.std.proofs.Common.{◌≡◌, true, sym, subst}
use Rattle.wk_index.specs.Named.{is_in}
use Rattle.wk_index.proofs.NamedLaws.{page-pushed}
use Rattle.wk_index.proofs.pages_by_title.push_page.Goals as goal

pub returns-clause-there : goal.returns-clause-there
returns-clause-there c = subst (λ l. is_in c.args.page l ≡ true) (sym c.in_ok-push.ensures.items) (page-pushed c.args.known.now.pages.items c.args.page).0

pub returns-clause-kept : goal.returns-clause-kept
returns-clause-kept c = λ number before.
    subst (λ l. is_in number l ≡ true) (sym c.in_ok-push.ensures.items) ((page-pushed c.args.known.now.pages.items c.args.page).1 number before)
