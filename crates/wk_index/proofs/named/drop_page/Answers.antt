use Rattle.std.proofs.Common.{◌≡◌, Some, sym, subst, refl}
use Rattle.std.specs.BTreeMap.{get}
use Rattle.std.specs.Option.{IsSome}
use Rattle.wk_text_rules.specs.Titles.{title_cmp}
use Rattle.wk_index.proofs.NamedLaws.{page-removed, title-spares}
use Rattle.wk_index.proofs.named.drop_page.Goals as goal

pub returns-in-Some : goal.returns-in-Some
returns-in-Some c =
    let w = c.remove.new.self in
    let found : get title_cmp c.args.named.now c.args.title.now ≡ Some c.in-Some.pages.now = sym c.in-Some.ensures.value in
    let puts = (c.get_mut.follows.holds w).3 (subst (λ o. IsSome o) (sym found) refl) in
    title-spares c.args.named.now (c.get_mut.follows.lender w) c.args.title.now c.in-Some.pages.now w c.args.page found (λ q. puts.0 q)
    (page-removed c.in-Some.pages.now.keys w.keys c.args.page (λ q. c.remove.ensures.updates.0 q))
