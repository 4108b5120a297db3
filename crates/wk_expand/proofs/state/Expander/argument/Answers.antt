use Rattle.std.proofs.Common.{◌≡◌, ◌++◌, None, Some, length, codes, refl, sym, ap, arith, ◌∙◌}
use Rattle.wk_text_rules.specs.Marked.{all_plain, trimmed_output}
use Rattle.wk_view_rules.specs.Expand.{argument_output, argument_value, whole_part}
use Rattle.wk_view_rules.specs.Expansions.{Output, give}
use Rattle.wk_view_rules.specs.Frames.{bound_to}
use Rattle.wk_expand.specs.Stack.{parts_at, whole_behind}
use Rattle.wk_expand.specs.State.{caller_tree}
use Rattle.wk_expand.proofs.ArgumentLaws.{argument-bound, argument-default, argument-written, binding-none, binding-some}
use Rattle.wk_expand.proofs.LeadLaws.{count-here, frame-here, leads-give, leads-in, part-requires, part-within}
use Rattle.wk_expand.proofs.ListLaws.{ended-with}
use Rattle.wk_expand.proofs.WrittenLaws.{bind-same}
use Rattle.wk_expand.proofs.state.Expander.argument.Goals as goal

pub returns-in-Some : goal.returns-in-Some
returns-in-Some c =
    λ seen p h.
    let s = c.args.self.now in
    let b = binding-some (caller_tree s) c.look.result (bound_to p.frame c.made_or.result.now) c.in-Some.bound c.in-Some.is (c.look.ensures.bound p.frame (frame-here s c.args.node p h).shows) in
    let bound : bound_to p.frame (trimmed_output c.args.name.now) ≡ Some b.0 = ap (bound_to p.frame) (sym (c.made_or.ensures ∙ c.in_ok-made.ensures)) ∙ b.1 in
    leads-in seen p (argument_output p.inner p.viewed p.frame c.args.name.now (parts_at p)) (argument_value p.inner p.viewed p.frame b.0) s c.in_ok-value.field-0 c.value.new.self
    (argument-bound p.inner p.viewed p.frame c.args.name.now (parts_at p) b.0 bound)
    (c.in_ok-value.ensures seen p c.args.node b.0 h b.2)

pub returns-then-parts-eq0 : goal.returns-then-parts-eq0
returns-then-parts-eq0 c =
    λ seen p h.
    let s = c.args.self.now in
    let count : c.parts.result ≡ length (parts_at p) = count-here s c.args.node p h c.tree.result.now c.parts.result c.tree.ensures c.parts.ensures in
    let free : bound_to p.frame (trimmed_output c.args.name.now) ≡ None = ap (bound_to p.frame) (sym (c.made_or.ensures ∙ c.in_ok-made.ensures)) ∙ binding-none (caller_tree s) c.look.result (bound_to p.frame c.made_or.result.now) c.in_default.is (c.look.ensures.bound p.frame (frame-here s c.args.node p h).shows) in
    leads-give s c.args.node p h seen (argument_output p.inner p.viewed p.frame c.args.name.now (parts_at p)) c.in_ok-braced.field-0 (all_plain (codes "{{{") ++ c.args.name.now ++ all_plain (codes "}}}"))
    (argument-written p.inner p.viewed p.frame c.args.name.now (parts_at p) free (sym count ∙ c.if-parts-eq0.true))
    c.in_ok-braced.ensures

pub whole-requires : goal.whole-requires
whole-requires c = part-requires c.args.self.now c.args.node c.tree.result.now c.parts.result 0 c.tree.ensures c.parts.ensures c.requires (omega (arith, c.if-parts-eq0.false))

pub returns : goal.returns
returns c =
    λ seen p h.
    let s = c.args.self.now in
    let q = part-within s c.args.node p h c.tree.result.now c.parts.result 0 c.tree.ensures c.parts.ensures (omega (arith, c.if-parts-eq0.false)) in
    let free : bound_to p.frame (trimmed_output c.args.name.now) ≡ None = ap (bound_to p.frame) (sym (c.made_or.ensures ∙ c.in_ok-made.ensures)) ∙ binding-none (caller_tree s) c.look.result (bound_to p.frame c.made_or.result.now) c.in_default.is (c.look.ensures.bound p.frame (frame-here s c.args.node p h).shows) in
    let whole = whole_part p.inner p.viewed p.frame q.0 in
    let before = c.new-before.result in
    leads-in seen p (argument_output p.inner p.viewed p.frame c.args.name.now (parts_at p)) (whole_behind p q.0 before give) s c.whole.result s
    (argument-default p.inner p.viewed p.frame c.args.name.now (parts_at p) q.0 free q.1
    ∙ sym (ended-with whole)
    ∙ bind-same whole give (λ out. give (before ++ out)) (λ out. ap (λ (b : Output). give (b ++ out)) (sym c.new-before.ensures)))
    (c.whole.ensures seen p q.0 give h q.1 (λ out. refl))
