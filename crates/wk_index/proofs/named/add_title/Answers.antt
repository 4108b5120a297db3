use Rattle.std.proofs.Common.{◌≡◌, ◌∙◌, Some, ap, sym, subst, refl}
use Rattle.std.specs.BTreeMap.{get}
use Rattle.std.specs.Option.{IsSome}
use Rattle.wk_text_rules.specs.Titles.{title_cmp}
use Rattle.wk_index.specs.Named.{is_in}
use Rattle.wk_index.proofs.NamedLaws.{page-added, title-more, title-there}
use Rattle.wk_index.proofs.named.add_title.Goals as goal

pub returns-in_ok-insert-in-Some-clause-there : goal.returns-in_ok-insert-in-Some-clause-there
returns-in_ok-insert-in-Some-clause-there c =
    let w = c.insert.new.self in
    let found : get title_cmp c.args.named.now c.args.title.now ≡ Some c.in-Some.pages.now = sym c.in-Some.ensures.value in
    let puts = (c.get_mut.follows.holds w).3 (subst (λ o. IsSome o) (sym found) refl) in
    title-there c.args.named.now (c.get_mut.follows.lender w) c.args.title.now w (λ q. puts.0 q) c.args.page
    (page-added c.in-Some.pages.now.keys w.keys c.args.page (λ q. c.in_ok-insert-in-Some.ensures.updates.0 q)).0

pub returns-in_ok-insert-in-Some-clause-kept : goal.returns-in_ok-insert-in-Some-clause-kept
returns-in_ok-insert-in-Some-clause-kept c =
    let w = c.insert.new.self in
    let found : get title_cmp c.args.named.now c.args.title.now ≡ Some c.in-Some.pages.now = sym c.in-Some.ensures.value in
    let puts = (c.get_mut.follows.holds w).3 (subst (λ o. IsSome o) (sym found) refl) in
    title-more c.args.named.now (c.get_mut.follows.lender w) c.args.title.now c.in-Some.pages.now w found (λ q. puts.0 q)
    (page-added c.in-Some.pages.now.keys w.keys c.args.page (λ q. c.in_ok-insert-in-Some.ensures.updates.0 q)).1

pub returns-in_err-insert-in-Some-clause-kept : goal.returns-in_err-insert-in-Some-clause-kept
returns-in_err-insert-in-Some-clause-kept c =
    let w = c.insert.new.self in
    let found : get title_cmp c.args.named.now c.args.title.now ≡ Some c.in-Some.pages.now = sym c.in-Some.ensures.value in
    let puts = (c.get_mut.follows.holds w).3 (subst (λ o. IsSome o) (sym found) refl) in
    title-more c.args.named.now (c.get_mut.follows.lender w) c.args.title.now c.in-Some.pages.now w found (λ q. puts.0 q)
    (λ number before. ap (is_in number) c.in_err-insert-in-Some.ensures.err ∙ before)
