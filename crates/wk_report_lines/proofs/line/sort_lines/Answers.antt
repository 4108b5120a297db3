use Rattle.std.proofs.Common.{◌≡◌, rules, ap}
use Rattle.std.specs.Ordering.{is_lt}
use Rattle.std.proofs.lemmas.List.Sorted.{answers_always}
use Rattle.wk_report_rules.specs.Reports.{line_cmp}
use Rattle.wk_report_laws.proofs.Sorting.{sorted-lines, stands_before, stands_before-order}
use Rattle.wk_report_lines.specs.Lines.{line_of}
use Rattle.wk_report_lines.proofs.line.sort_lines.Goals as goal

pub returns : goal.returns
returns c =
    sorted-lines line_of c.args.lines.now.items c.sort_unstable_by.new.self.items c.sort_unstable_by.ensures.permutation
    (c.sort_unstable_by.ensures.sorted (stands_before line_of) (stands_before-order line_of)
    (answers_always _ (λ a r. is_lt r ≡ stands_before line_of a.0.now a.1.0.now) _ (λ f a r f' called.
    let h : (r ≡ line_cmp (line_of a.0.now) (line_of a.1.0.now)) × (f' ≡ f) = search rules in ap is_lt h.0)))
