use Rattle.std.proofs.Common.{drop, sym, ap, ◌∙◌}
use Rattle.wk_text_rules.specs.Marked.{trimmed_output}
use Rattle.wk_view_rules.specs.Expand.{Search as Rule, behind_bare_item, switch_output}
use Rattle.wk_expand.specs.Searches.{search_of}
use Rattle.wk_expand.specs.Stack.{parts_at, text_at}
use Rattle.wk_expand.proofs.LeadLaws.{leads-in}
use Rattle.wk_expand.proofs.state.Expander.bare_item.Goals as goal

pub returns : goal.returns
returns c =
    λ seen p h.
    let so_far = search_of (text_at p) c.args.search in
    let rest = drop c.args.next (parts_at p) in
    leads-in seen p (switch_output p.inner p.viewed p.frame (behind_bare_item so_far (trimmed_output c.args.out)) rest) (switch_output p.inner p.viewed p.frame (search_of (text_at p) c.bare.new.self) rest) c.args.self.now c.switch.result c.args.self.now
    (ap (λ (x : Rule). switch_output p.inner p.viewed p.frame x rest) (ap (behind_bare_item so_far) (sym c.in_ok-trimmed.ensures) ∙ sym (c.bare.ensures.after (text_at p))))
    (c.switch.ensures seen p h)
