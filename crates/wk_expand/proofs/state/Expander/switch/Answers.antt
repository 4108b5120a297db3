use Rattle.std.proofs.Common.{◌++◌, ◌+◌, drop, refl, sym, ap, subst, arith, IsSome, ◌∙◌}
use Rattle.std.proofs.lemmas.List.{drop_all}
use Rattle.wk_text_rules.specs.Marked.{trimmed_output}
use Rattle.wk_tree.specs.Parsed.{part_with}
use Rattle.wk_view_rules.specs.Expand.{switch_output, without_result}
use Rattle.wk_view_rules.specs.Expansions.{Expansion, Output}
use Rattle.wk_expand.specs.Searches.{HasDefault, search_of}
use Rattle.wk_expand.specs.Stack.{parts_at, text_at}
use Rattle.wk_expand.specs.State.{current}
use Rattle.wk_expand.specs.declared.search.Search.{Search}
use Rattle.wk_expand.specs.declared.stack.Waiting.TheVariants.{Bare, Named}
use Rattle.wk_expand.proofs.LeadLaws.{leads-in, leads-list, leads-trimmed, part-here, part-requires, part-within, parts-past, text-here}
use Rattle.wk_expand.proofs.NodeLaws.{then_trimmed}
use Rattle.wk_expand.proofs.PartLaws.{bare, named}
use Rattle.wk_expand.proofs.SwitchLaws.{behind_bare, behind_switched_name, rest-at, searched-same, switch-bare, switch-end, switch-matched, switch-named}
use Rattle.wk_expand.proofs.WrittenLaws.{bind-same, regrouped}
use Rattle.wk_expand.proofs.state.Expander.switch.Goals as goal

pub without_result-requires : goal.without_result-requires
without_result-requires c =
    subst (HasDefault (current c.args.self.now)) (sym c.found.ensures) c.requires.default

pub returns-then-parts-at : goal.returns-then-parts-at
returns-then-parts-at c =
    λ seen p h.
    let so_far = search_of (text_at p) c.args.search in
    let past = parts-past c.args.self.now c.args.node p h c.tree.result.now c.parts.result c.args.at c.tree.ensures c.parts.ensures c.if-parts-at.true in
    leads-in seen p (switch_output p.inner p.viewed p.frame so_far (drop c.args.at (parts_at p))) (without_result p.inner p.viewed p.frame (search_of (text_at p) c.found.result)) c.args.self.now c.without_result.result c.args.self.now
    (ap (switch_output p.inner p.viewed p.frame so_far) (drop_all c.args.at (parts_at p) past) ∙ switch-end p.inner p.viewed p.frame so_far
    ∙ ap (λ (s : Search). without_result p.inner p.viewed p.frame (search_of (text_at p) s)) (sym c.found.ensures))
    (c.without_result.ensures seen p c.args.node h)

pub part-part-requires : goal.part-part-requires
part-part-requires c =
    subst (λ parsed. IsSome (part_with parsed c.args.node c.args.at)) (sym c.tree-2.ensures)
    (part-requires c.args.self.now c.args.node c.tree.result.now c.parts.result c.args.at c.tree.ensures c.parts.ensures c.requires.there (omega (arith, c.if-parts-at.false)))

pub returns-in-None : goal.returns-in-None
returns-in-None c =
    λ seen p h.
    let so_far = search_of (text_at p) c.args.search in
    let within = part-within c.args.self.now c.args.node p h c.tree.result.now c.parts.result c.args.at c.tree.ensures c.parts.ensures (omega (arith, c.if-parts-at.false)) in
    let part = within.0 in
    let q = part-here c.args.self.now c.args.node p h c.tree-2.result.now c.args.at c.part-part.result part c.tree-2.ensures c.part-part.ensures within.1 in
    let rest = drop (c.args.at + 1) (parts_at p) in
    let before = c.new-out.result in
    let f : Output → Expansion Output = λ out. behind_bare p.inner p.viewed p.frame so_far rest (trimmed_output out) in
    let value = p.inner p.frame part.value in
    leads-list c.args.self.now c.args.node p h seen (switch_output p.inner p.viewed p.frame so_far (drop c.args.at (parts_at p))) (Bare c.args.search (c.args.at + 1)) c.part-part.result.value before part.value f q.value
    (record { default = subst (λ parsed. HasDefault parsed c.args.search) (text-here c.args.self.now c.args.node p h) c.requires.default; is = λ out. refl })
    h.home
    (ap (switch_output p.inner p.viewed p.frame so_far) (rest-at (parts_at p) c.args.at part within.1)
    ∙ switch-bare p.inner p.viewed p.frame so_far part rest (bare (text_at p) c.part-part.result part c.in-None.is q)
    ∙ regrouped value (then_trimmed p.inner p.viewed p.frame) (behind_bare p.inner p.viewed p.frame so_far rest)
    ∙ bind-same value f (λ out. f (before ++ out)) (λ out. ap (λ (b : Output). f (b ++ out)) (sym c.new-out.ensures)))

pub returns-then-matched : goal.returns-then-matched
returns-then-matched c =
    λ seen p h.
    let so_far = search_of (text_at p) c.args.search in
    let within = part-within c.args.self.now c.args.node p h c.tree.result.now c.parts.result c.args.at c.tree.ensures c.parts.ensures (omega (arith, c.if-parts-at.false)) in
    let part = within.0 in
    let q = part-here c.args.self.now c.args.node p h c.tree-2.result.now c.args.at c.part-part.result part c.tree-2.ensures c.part-part.ensures within.1 in
    let rest = drop (c.args.at + 1) (parts_at p) in
    let name = named (text_at p) c.part-part.result part c.in-Some.name c.in-Some.is q in
    leads-trimmed c.args.self.now c.args.node p h seen (switch_output p.inner p.viewed p.frame so_far (drop c.args.at (parts_at p))) c.part-part.result.value c.new-out.result part.value q.value c.new-out.ensures
    (ap (switch_output p.inner p.viewed p.frame so_far) (rest-at (parts_at p) c.args.at part within.1)
    ∙ switch-matched p.inner p.viewed p.frame so_far part rest name.0 name.1 (sym c.matched.ensures ∙ c.if-matched.true))

pub returns-else-matched : goal.returns-else-matched
returns-else-matched c =
    λ seen p h.
    let so_far = search_of (text_at p) c.args.search in
    let within = part-within c.args.self.now c.args.node p h c.tree.result.now c.parts.result c.args.at c.tree.ensures c.parts.ensures (omega (arith, c.if-parts-at.false)) in
    let part = within.0 in
    let q = part-here c.args.self.now c.args.node p h c.tree-2.result.now c.args.at c.part-part.result part c.tree-2.ensures c.part-part.ensures within.1 in
    let rest = drop (c.args.at + 1) (parts_at p) in
    let name = named (text_at p) c.part-part.result part c.in-Some.name c.in-Some.is q in
    let before = c.new-out.result in
    let by = behind_switched_name p.inner p.viewed p.frame so_far part rest in
    let f : Output → Expansion Output = λ out. by (trimmed_output out) in
    let first = p.inner p.frame name.0 in
    leads-list c.args.self.now c.args.node p h seen (switch_output p.inner p.viewed p.frame so_far (drop c.args.at (parts_at p))) (Named c.args.search (c.args.at + 1) c.part-part.result.value) c.in-Some.name before name.0 f name.2
    (record { default = subst (λ parsed. HasDefault parsed c.args.search) (text-here c.args.self.now c.args.node p h) c.requires.default; value = part.value; there = q.value; is = λ out. searched-same p part rest _ })
    h.home
    (ap (switch_output p.inner p.viewed p.frame so_far) (rest-at (parts_at p) c.args.at part within.1)
    ∙ switch-named p.inner p.viewed p.frame so_far part rest name.0 name.1 (sym c.matched.ensures ∙ c.if-matched.false)
    ∙ regrouped first (then_trimmed p.inner p.viewed p.frame) by
    ∙ bind-same first f (λ out. f (before ++ out)) (λ out. ap (λ (b : Output). f (b ++ out)) (sym c.new-out.ensures)))
