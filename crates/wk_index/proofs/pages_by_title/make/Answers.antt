use Rattle.std.proofs.Common.{◌≡◌, ◌∙◌, ℤ, ℕ, List, ap, rules, to_z, of_z, w64}
use Rattle.wk_index.proofs.GatheredLaws.{made-place}
use Rattle.wk_index.proofs.TitleMapLaws.{title_at}
use Rattle.wk_index.proofs.pages_by_title.make.Goals as goal

pub returns-clause-kept : goal.returns-clause-kept
returns-clause-kept c =
    let wide : to_z w64 (of_z w64 c.args.namespace) ≡ c.args.namespace = search rules in
    let place : ℤ × List ℕ = (to_z w64 (of_z w64 c.args.namespace), c.in_ok-share-2.field-0) in
    let same : place ≡ (c.args.namespace, c.args.key.now) = ap (λ n. (n, c.in_ok-share-2.field-0)) wide ∙ ap (λ k. (c.args.namespace, k)) c.in_ok-share-2.ensures in
    (made-place c.args.titles.now c.insert.new.self place (c.args.namespace, c.args.key.now) (record { title = c.in_ok-share.field-0; pages = c.in_ok-vec.field-0 }) c.args.page same c.requires.none
    (λ q. c.in_ok-insert.ensures.updates.0 q) (c.in_ok-share.ensures ∙ c.in_ok-title.ensures ∙ ap (λ n. title_at (n, c.args.key.now)) wide) c.in_ok-vec.ensures.items c.requires.titled).1

pub returns-clause-titled : goal.returns-clause-titled
returns-clause-titled c =
    let wide : to_z w64 (of_z w64 c.args.namespace) ≡ c.args.namespace = search rules in
    let place : ℤ × List ℕ = (to_z w64 (of_z w64 c.args.namespace), c.in_ok-share-2.field-0) in
    let same : place ≡ (c.args.namespace, c.args.key.now) = ap (λ n. (n, c.in_ok-share-2.field-0)) wide ∙ ap (λ k. (c.args.namespace, k)) c.in_ok-share-2.ensures in
    (made-place c.args.titles.now c.insert.new.self place (c.args.namespace, c.args.key.now) (record { title = c.in_ok-share.field-0; pages = c.in_ok-vec.field-0 }) c.args.page same c.requires.none
    (λ q. c.in_ok-insert.ensures.updates.0 q) (c.in_ok-share.ensures ∙ c.in_ok-title.ensures ∙ ap (λ n. title_at (n, c.args.key.now)) wide) c.in_ok-vec.ensures.items c.requires.titled).2
