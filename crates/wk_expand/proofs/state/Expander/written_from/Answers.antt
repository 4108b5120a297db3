use Rattle.std.proofs.Common.{◌++◌, ◌+◌, codes, drop, refl, sym, ap, arith, ◌∙◌}
use Rattle.std.proofs.lemmas.List.{drop_all}
use Rattle.wk_text_rules.specs.Marked.{all_plain}
use Rattle.wk_view_rules.specs.Expand.{whole_part}
use Rattle.wk_view_rules.specs.Expansions.{Expansion, Output}
use Rattle.wk_expand.specs.Nodes.{rest_written}
use Rattle.wk_expand.specs.Stack.{parts_at, whole_behind}
use Rattle.wk_expand.proofs.LeadLaws.{leads-give, leads-in, part-requires, part-within, parts-past}
use Rattle.wk_expand.proofs.WrittenLaws.{behind-part-is, behind_part, bind-same, drop-some, written-end, written-more}
use Rattle.wk_expand.proofs.state.Expander.written_from.Goals as goal

pub returns-then-parts-at : goal.returns-then-parts-at
returns-then-parts-at c =
    λ seen p h.
    let past = parts-past c.args.self.now c.args.node p h c.tree.result.now c.parts.result c.args.at c.tree.ensures c.parts.ensures c.if-parts-at.true in
    leads-give c.args.self.now c.args.node p h seen (rest_written p.inner p.viewed p.frame c.args.so_far (drop c.args.at (parts_at p))) c.push_plain.new.self (c.args.so_far ++ all_plain (codes "}}"))
    (ap (rest_written p.inner p.viewed p.frame c.args.so_far) (drop_all c.args.at (parts_at p) past) ∙ written-end p.inner p.viewed p.frame c.args.so_far)
    c.in_ok-push_plain.ensures.ok

pub whole-requires : goal.whole-requires
whole-requires c = part-requires c.args.self.now c.args.node c.tree.result.now c.parts.result c.args.at c.tree.ensures c.parts.ensures c.requires (omega (arith, c.if-parts-at.false))

pub returns : goal.returns
returns c =
    λ seen p h.
    let q = part-within c.args.self.now c.args.node p h c.tree.result.now c.parts.result c.args.at c.tree.ensures c.parts.ensures (omega (arith, c.if-parts-at.false)) in
    let before = c.push_plain-2.new.self in
    let bar = all_plain (codes "|") in
    let rest = drop (c.args.at + 1) (parts_at p) in
    let f : Output → Expansion Output = λ out. rest_written p.inner p.viewed p.frame out rest in
    let whole = whole_part p.inner p.viewed p.frame q.0 in
    leads-in seen p (rest_written p.inner p.viewed p.frame c.args.so_far (drop c.args.at (parts_at p))) (whole_behind p q.0 before f) c.args.self.now c.whole.result c.args.self.now
    (ap (rest_written p.inner p.viewed p.frame c.args.so_far) (drop-some (parts_at p) c.args.at q.0 q.1)
    ∙ written-more p.inner p.viewed p.frame c.args.so_far q.0 rest
    ∙ bind-same whole (behind_part p.inner p.viewed p.frame c.args.so_far rest) (λ out. f (before ++ out)) (λ out.
    behind-part-is p.inner p.viewed p.frame c.args.so_far rest out ∙ ap (λ (b : Output). f (b ++ out)) (sym c.in_ok-push_plain-2.ensures.ok)))
    (c.whole.ensures seen p q.0 f h q.1 (λ out. refl))
