use Rattle.std.proofs.Common.{◌≡◌, ◌++◌, codes, sym, ap, ◌∙◌}
use Rattle.wk_text_rules.specs.Marked.{all_plain}
use Rattle.wk_view_rules.specs.Expand.{template_as_written}
use Rattle.wk_view_rules.specs.Expansions.{Output}
use Rattle.wk_expand.specs.Nodes.{rest_written}
use Rattle.wk_expand.specs.Stack.{parts_at}
use Rattle.wk_expand.proofs.LeadLaws.{leads-in}
use Rattle.wk_expand.proofs.WrittenLaws.{written-start}
use Rattle.wk_expand.proofs.state.Expander.written.Goals as goal

pub returns : goal.returns
returns c =
    λ seen p h.
    let begun : c.append.new.self ≡ all_plain (codes "{{") ++ c.args.name.now = c.in_ok-append.ensures.ok ∙ ap (λ (o : Output). o ++ c.args.name.now) c.in_ok-out.ensures in
    leads-in seen p (template_as_written p.inner p.viewed p.frame c.args.name.now (parts_at p)) (rest_written p.inner p.viewed p.frame c.append.new.self (parts_at p)) c.args.self.now c.in_ok-written_from.field-0 c.args.self.now
    (written-start p.inner p.viewed p.frame c.args.name.now (parts_at p) ∙ ap (λ (o : Output). rest_written p.inner p.viewed p.frame o (parts_at p)) (sym begun))
    (c.in_ok-written_from.ensures seen p h)
