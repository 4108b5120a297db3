use Rattle.std.proofs.Common.{sym, ap, ◌∙◌, ◌+◌, ◌≡◌, false, subst, arith}
use Rattle.wk_links.specs.Brackets.{long_label, target_end_of}
use Rattle.wk_links.specs.Pairs.{pair_at, IsNearestLabelEnd}
use Rattle.wk_links.proofs.brackets.brackets_at.Goals as goal

pub returns-then-label_end-target_end-gt-MOST_LABEL-clause-none : goal.returns-then-label_end-target_end-gt-MOST_LABEL-clause-none
returns-then-label_end-target_end-gt-MOST_LABEL-clause-none c =
    let seen = c.args.seen.now in
    let there : c.target_end-target_end.result ≡ target_end_of seen c.args.start = c.target_end-target_end.ensures.value in
    let unclosed : pair_at 93 seen (target_end_of seen c.args.start) ≡ false = sym (ap (pair_at 93 seen) there) ∙ sym c.is_pair-2.ensures ∙ c.if-is_pair.false in
    let nearest = subst (λ t. IsNearestLabelEnd seen (t + 1) c.in-Some.label_end) there c.in-Some.ensures.found in
    long_label c.in-Some.label_end unclosed nearest (omega (arith, there))
