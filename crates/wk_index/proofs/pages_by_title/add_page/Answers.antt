use Rattle.std.proofs.Common.{◌≡◌, ◌∙◌, ℤ, ℕ, List, Some, ap, sym, subst, refl, rules, to_z, of_z, w64}
use Rattle.std.specs.BTreeMap.{get}
use Rattle.std.specs.Option.{IsSome}
use Rattle.wk_index.specs.TitleMap.{place_cmp}
use Rattle.wk_index.proofs.GatheredLaws.{more-place}
use Rattle.wk_index.proofs.pages_by_title.add_page.Goals as goal

pub returns-in-Some-clause-title : goal.returns-in-Some-clause-title
returns-in-Some-clause-title c =
    let w = c.push_page.new.known in
    let wide : to_z w64 (of_z w64 c.args.namespace) ≡ c.args.namespace = search rules in
    let place : ℤ × List ℕ = (to_z w64 (of_z w64 c.args.namespace), c.in_ok-share.field-0) in
    let same : place ≡ (c.args.namespace, c.args.key.now) = ap (λ n. (n, c.in_ok-share.field-0)) wide ∙ ap (λ k. (c.args.namespace, k)) c.in_ok-share.ensures in
    let found : get place_cmp c.args.titles.now place ≡ Some c.in-Some.known.now = sym c.in-Some.ensures.value in
    let puts = (c.get_mut.follows.holds w).3 (subst (λ o. IsSome o) (sym found) refl) in
    let all = more-place c.args.titles.now (c.get_mut.follows.lender w) place (c.args.namespace, c.args.key.now) c.in-Some.known.now w same found (λ q. puts.0 q)
    c.push_page.ensures.same c.push_page.ensures.kept c.requires.titled in
    c.in_ok-title-in-Some.ensures.title ∙ all.0

pub returns-in-Some-clause-there : goal.returns-in-Some-clause-there
returns-in-Some-clause-there c =
    let w = c.push_page.new.known in
    let wide : to_z w64 (of_z w64 c.args.namespace) ≡ c.args.namespace = search rules in
    let place : ℤ × List ℕ = (to_z w64 (of_z w64 c.args.namespace), c.in_ok-share.field-0) in
    let same : place ≡ (c.args.namespace, c.args.key.now) = ap (λ n. (n, c.in_ok-share.field-0)) wide ∙ ap (λ k. (c.args.namespace, k)) c.in_ok-share.ensures in
    let found : get place_cmp c.args.titles.now place ≡ Some c.in-Some.known.now = sym c.in-Some.ensures.value in
    let puts = (c.get_mut.follows.holds w).3 (subst (λ o. IsSome o) (sym found) refl) in
    let all = more-place c.args.titles.now (c.get_mut.follows.lender w) place (c.args.namespace, c.args.key.now) c.in-Some.known.now w same found (λ q. puts.0 q)
    c.push_page.ensures.same c.push_page.ensures.kept c.requires.titled in
    all.1 c.args.page c.in_ok-title-in-Some.ensures.there

pub returns-in-Some-clause-kept : goal.returns-in-Some-clause-kept
returns-in-Some-clause-kept c =
    let w = c.push_page.new.known in
    let wide : to_z w64 (of_z w64 c.args.namespace) ≡ c.args.namespace = search rules in
    let place : ℤ × List ℕ = (to_z w64 (of_z w64 c.args.namespace), c.in_ok-share.field-0) in
    let same : place ≡ (c.args.namespace, c.args.key.now) = ap (λ n. (n, c.in_ok-share.field-0)) wide ∙ ap (λ k. (c.args.namespace, k)) c.in_ok-share.ensures in
    let found : get place_cmp c.args.titles.now place ≡ Some c.in-Some.known.now = sym c.in-Some.ensures.value in
    let puts = (c.get_mut.follows.holds w).3 (subst (λ o. IsSome o) (sym found) refl) in
    let all = more-place c.args.titles.now (c.get_mut.follows.lender w) place (c.args.namespace, c.args.key.now) c.in-Some.known.now w same found (λ q. puts.0 q)
    c.push_page.ensures.same c.push_page.ensures.kept c.requires.titled in
    all.2

pub returns-in-Some-clause-titled : goal.returns-in-Some-clause-titled
returns-in-Some-clause-titled c =
    let w = c.push_page.new.known in
    let wide : to_z w64 (of_z w64 c.args.namespace) ≡ c.args.namespace = search rules in
    let place : ℤ × List ℕ = (to_z w64 (of_z w64 c.args.namespace), c.in_ok-share.field-0) in
    let same : place ≡ (c.args.namespace, c.args.key.now) = ap (λ n. (n, c.in_ok-share.field-0)) wide ∙ ap (λ k. (c.args.namespace, k)) c.in_ok-share.ensures in
    let found : get place_cmp c.args.titles.now place ≡ Some c.in-Some.known.now = sym c.in-Some.ensures.value in
    let puts = (c.get_mut.follows.holds w).3 (subst (λ o. IsSome o) (sym found) refl) in
    let all = more-place c.args.titles.now (c.get_mut.follows.lender w) place (c.args.namespace, c.args.key.now) c.in-Some.known.now w same found (λ q. puts.0 q)
    c.push_page.ensures.same c.push_page.ensures.kept c.requires.titled in
    all.3

pub returns-in_err-title-in-Some-clause-kept : goal.returns-in_err-title-in-Some-clause-kept
returns-in_err-title-in-Some-clause-kept c =
    let w = c.push_page.new.known in
    let wide : to_z w64 (of_z w64 c.args.namespace) ≡ c.args.namespace = search rules in
    let place : ℤ × List ℕ = (to_z w64 (of_z w64 c.args.namespace), c.in_ok-share.field-0) in
    let same : place ≡ (c.args.namespace, c.args.key.now) = ap (λ n. (n, c.in_ok-share.field-0)) wide ∙ ap (λ k. (c.args.namespace, k)) c.in_ok-share.ensures in
    let found : get place_cmp c.args.titles.now place ≡ Some c.in-Some.known.now = sym c.in-Some.ensures.value in
    let puts = (c.get_mut.follows.holds w).3 (subst (λ o. IsSome o) (sym found) refl) in
    let all = more-place c.args.titles.now (c.get_mut.follows.lender w) place (c.args.namespace, c.args.key.now) c.in-Some.known.now w same found (λ q. puts.0 q)
    c.push_page.ensures.same c.push_page.ensures.kept c.requires.titled in
    all.2

pub returns-in_err-title-in-Some-clause-titled : goal.returns-in_err-title-in-Some-clause-titled
returns-in_err-title-in-Some-clause-titled c =
    let w = c.push_page.new.known in
    let wide : to_z w64 (of_z w64 c.args.namespace) ≡ c.args.namespace = search rules in
    let place : ℤ × List ℕ = (to_z w64 (of_z w64 c.args.namespace), c.in_ok-share.field-0) in
    let same : place ≡ (c.args.namespace, c.args.key.now) = ap (λ n. (n, c.in_ok-share.field-0)) wide ∙ ap (λ k. (c.args.namespace, k)) c.in_ok-share.ensures in
    let found : get place_cmp c.args.titles.now place ≡ Some c.in-Some.known.now = sym c.in-Some.ensures.value in
    let puts = (c.get_mut.follows.holds w).3 (subst (λ o. IsSome o) (sym found) refl) in
    let all = more-place c.args.titles.now (c.get_mut.follows.lender w) place (c.args.namespace, c.args.key.now) c.in-Some.known.now w same found (λ q. puts.0 q)
    c.push_page.ensures.same c.push_page.ensures.kept c.requires.titled in
    all.3
