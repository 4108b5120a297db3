use Rattle.std.proofs.Common.{sym, ◌∙◌}
use Rattle.wk_redirect.proofs.LabelLaws.{label_found, newline_found, further_on, nothing_left}
use Rattle.wk_redirect.proofs.redirect.ends_label.Goals as goal

pub returns-then-starts_with : goal.returns-then-starts_with
returns-then-starts_with c =
    label_found c.args.text.now c.loop-at.at c.loop-at.invariant (sym c.starts_with.ensures.value ∙ c.if-starts_with.true)

pub returns-then-text-at-eq10 : goal.returns-then-text-at-eq10
returns-then-text-at-eq10 c = newline_found c.args.text.now c.loop-at.at c.loop-at.invariant c.loop-at-test.true c.if-text-at-eq10.true

pub loop-at-preserved : goal.loop-at-preserved
loop-at-preserved c =
    further_on c.args.text.now c.loop-at.at c.loop-at.invariant c.loop-at-test.true (sym c.starts_with.ensures.value ∙ c.if-starts_with.false) c.if-text-at-eq10.false

pub returns : goal.returns
returns c = nothing_left c.args.text.now c.loop-at.at c.loop-at.invariant c.loop-at-test.false
