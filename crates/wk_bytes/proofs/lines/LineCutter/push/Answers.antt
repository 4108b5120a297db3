use Rattle.std.proofs.Common.{◌≡◌, ◌+◌, ◌∙◌, ap, arith, length}
use Rattle.wk_bytes.specs.LineCutter.{lines_of}
use Rattle.wk_bytes.proofs.LineLaws.{length-lines_of, count-first, count-none}
use Rattle.wk_bytes.proofs.lines.LineCutter.push.Goals as goal

pub returns-in_ok-lengthen-in-None-clause-count : goal.returns-in_ok-lengthen-in-None-clause-count
returns-in_ok-lengthen-in-None-clause-count c =
    omega (arith, ap (λ cutter. length cutter.whole) c.self.view_is, count-none c.args.piece.now c.in-None.ensures.none)

pub returns-in_ok-append-in-Some-clause-count : goal.returns-in_ok-append-in-Some-clause-count
returns-in_ok-append-in-Some-clause-count c =
    let long : length (lines_of c.append.new.self.items) ≡ length (lines_of c.self.inside.whole.items) + length c.in_ok-whole-in-Some.whole.items =
    ap (λ ls. length (lines_of ls)) c.in_ok-append-in-Some.ensures.items ∙ length-lines_of c.self.inside.whole.items c.in_ok-whole-in-Some.whole.items in
    omega (
      arith,
      long,
      ap (λ cutter. length cutter.whole) c.self.view_is,
      c.in_ok-whole-in-Some.ensures.count,
      count-first _ _ _ c.in-Some.ensures.found.1 c.in-Some.ensures.found.0,
    )
