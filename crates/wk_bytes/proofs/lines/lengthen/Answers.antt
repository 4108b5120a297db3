use Rattle.std.proofs.Common.{◌≡◌, ◌-◌, ◌+◌, ◌++◌, ap, ◌∙◌, arith, length, take}
use Rattle.wk_bytes.proofs.LineLaws.{lines-kept}
use Rattle.wk_bytes.proofs.lines.lengthen.Goals as goal

pub returns-clause-lines : goal.returns-clause-lines
returns-clause-lines c =
    let long : c.len.result ≡ length c.args.rest.now.items = omega arith in
    let e : c.extend_from_slice.new.self.items ≡ c.args.rest.now.items ++ take (c.args.most + 1 - length c.args.rest.now.items) c.args.piece.now =
    c.in_ok-extend_from_slice.ensures.items
    ∙ ap (λ xs. c.args.rest.now.items ++ xs) (c.kept.ensures ∙ ap (λ n. take (c.args.most + 1 - n) c.args.piece.now) long) in
    lines-kept _ _ _ _ c.requires.begun c.requires.piece e
