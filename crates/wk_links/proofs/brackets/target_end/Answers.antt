use Rattle.std.proofs.Common.{◌+◌, ◌-◌, ◌∙◌, ap, arith, drop, length, length-drop, take_all}
use Rattle.std.specs.List.{prefix_len}
use Rattle.wk_text_rules.specs.Targets.{is_target_byte}
use Rattle.wk_links.proofs.brackets.target_end.Goals as goal

pub returns-clause-value : goal.returns-clause-value
returns-clause-value c =
    let seen = c.args.seen.now in
    let behind = take_all (length seen - c.args.from) (drop c.args.from seen) (omega (arith, length-drop c.args.from seen)) in
    ap (λ n. c.args.from + n) (c.target_len.ensures.value ∙ ap (prefix_len is_target_byte) behind)
