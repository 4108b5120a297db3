use Rattle.std.proofs.Common.{Some, sym, ap, ◌∙◌}
use Rattle.wk_tree_rules.specs.Redirects.{redirect_start}
use Rattle.wk_redirect.proofs.RedirectLaws.{inside_start, target_end_boundary, target_found}
use Rattle.wk_redirect.proofs.redirect.target_in.Goals as goal

pub overflow_sub-start : goal.overflow_sub-start
overflow_sub-start c =
    (inside_start c.args.text.now c.in_ok-inside.inside.now (c.in_ok-inside.ensures ∙ ap redirect_start c.as_bytes.ensures.value)).shorter

pub range-requires-clause-start_boundary : goal.range-requires-clause-start_boundary
range-requires-clause-start_boundary c _ =
    (inside_start c.args.text.now c.in_ok-inside.inside.now (c.in_ok-inside.ensures ∙ ap redirect_start c.as_bytes.ensures.value)).start c.utf8.text

pub range-requires-clause-end_boundary : goal.range-requires-clause-end_boundary
range-requires-clause-end_boundary c =
    target_end_boundary c.args.text.now c.in_ok-inside.inside.now c.target_len-len.result (c.in_ok-inside.ensures ∙ ap redirect_start c.as_bytes.ensures.value)
    (sym c.ends_target.ensures ∙ c.if-not-ends_target.false)

pub returns : goal.returns
returns c =
    ap Some c.range.ensures.value
    ∙ target_found c.args.text.now c.in_ok-inside.inside.now c.target_len-len.result (c.in_ok-inside.ensures ∙ ap redirect_start c.as_bytes.ensures.value)
    (sym c.ends_target.ensures ∙ c.if-not-ends_target.false) c.target_len-len.ensures.value
