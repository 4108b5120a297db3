use Rattle.std.proofs.Common.{◌≡◌, [], ◌∷◌, ◌++◌, ap, ◌∙◌}
use Rattle.wk_text_rules.specs.Lines.{lines}
use Rattle.wk_bytes.proofs.LineLaws.{lines-cut}
use Rattle.wk_bytes.proofs.lines.cut.Goals as goal

pub returns-clause-lines : goal.returns-clause-lines
returns-clause-lines c = λ more.
    let one : c.push_back.new.self.items ≡ c.in_ok-whole_line.field-0 ∷ [] =
    c.in_ok-push_back.ensures.items ∙ ap (λ xs. xs ++ c.in_ok-whole_line.field-0 ∷ []) c.new-whole.ensures.items in
    let behind : lines c.args.most (c.lengthen.new.rest.items ++ more) ≡ lines c.args.most (c.in_ok-last.last.now ++ more) =
    c.in_ok-lengthen.ensures.lines more ∙ ap (λ xs. lines c.args.most (xs ++ (c.in_ok-last.last.now ++ more))) c.new-kept.ensures.items in
    lines-cut _ _ _ _ _ _ more _ _ _ c.requires.rest c.requires.end c.in_ok-whole_line.ensures one (c.in_ok-last.ensures.lines more) behind
