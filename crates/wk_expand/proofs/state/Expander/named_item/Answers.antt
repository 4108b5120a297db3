use Rattle.std.proofs.Common.{drop, sym, ap, ◌∙◌}
use Rattle.wk_text_rules.specs.Marked.{trimmed_output}
use Rattle.wk_view_rules.specs.Expand.{switch_output}
use Rattle.wk_view_rules.specs.Expansions.{Output}
use Rattle.wk_view_rules.specs.Words.{named_item}
use Rattle.wk_expand.specs.Searches.{behind_turned, search_of}
use Rattle.wk_expand.specs.Stack.{parts_at, searched, text_at}
use Rattle.wk_expand.proofs.LeadLaws.{leads-in, leads-trimmed}
use Rattle.wk_expand.proofs.state.Expander.named_item.Goals as goal

pub returns-then-named : goal.returns-then-named
returns-then-named c =
    λ seen p items h there.
    let so_far = search_of (text_at p) c.args.search in
    let rest = drop c.args.next (parts_at p) in
    let by = λ (out : Output). searched p items rest (behind_turned (named_item c.args.search.decides out) so_far items) in
    leads-trimmed c.args.self.now c.args.node p h seen (by (trimmed_output c.args.name)) c.args.value c.new-before.result items there c.new-before.ensures
    (ap by (sym c.in_ok-name.ensures) ∙ ap (searched p items rest) (sym (c.if-named.ensures.after (text_at p) items there)))

pub returns : goal.returns
returns c =
    λ seen p items h there.
    let so_far = search_of (text_at p) c.args.search in
    let rest = drop c.args.next (parts_at p) in
    let by = λ (out : Output). searched p items rest (behind_turned (named_item c.args.search.decides out) so_far items) in
    leads-in seen p (by (trimmed_output c.args.name)) (switch_output p.inner p.viewed p.frame (search_of (text_at p) c.named.new.self) rest) c.args.self.now c.switch.result c.args.self.now
    (ap by (sym c.in_ok-name.ensures) ∙ ap (searched p items rest) (sym (c.if-named.ensures.after (text_at p) items there)))
    (c.switch.ensures seen p h)
