use Rattle.std.proofs.Common.{◌≡◌, ◌∙◌, ap, sym, subst, rules, to_z, of_z, w64}
use Rattle.std.specs.Result.{IfOk}
use Rattle.wk_index.proofs.TitleMapLaws.{AreTitles-more, title_at}
use Rattle.wk_index.proofs.title_map.TitleMap.title.Goals as goal

pub returns-in-Some : goal.returns-in-Some
returns-in-Some c =
    let wide : to_z w64 (of_z w64 c.args.namespace) ≡ c.args.namespace = search rules in
    subst (λ t. IfOk c.share-in-Some.result (λ title. title ≡ t))
    (c.self.invariant (to_z w64 (of_z w64 c.args.namespace), c.in_ok-share.field-0) c.in-Some.title.now (sym c.in-Some.ensures.value)
    ∙ ap (λ n. title_at (n, c.in_ok-share.field-0)) wide
    ∙ ap (λ k. title_at (c.args.namespace, k)) c.in_ok-share.ensures)
    c.share-in-Some.ensures

pub invariant_of-self-2 : goal.invariant_of-self-2
invariant_of-self-2 c =
    AreTitles-more c.self.inside.titles c.insert.new.self (to_z w64 (of_z w64 c.args.namespace), c.in_ok-share.field-0) c.in_ok-share-2.field-0 (λ q. c.in_ok-insert.ensures.updates.0 q)
    (c.in_ok-share-2.ensures ∙ c.in_ok-title.ensures ∙ ap (λ k. title_at (to_z w64 (of_z w64 c.args.namespace), k)) (sym c.in_ok-share.ensures)) c.self.invariant
